use Rattle.std.proofs.Common.{◌≡◌, ◌++◌, length, ℕ, List, None, ap, sym, subst, arith}
use Rattle.std.specs.Prelude.{option_map}
use Rattle.std.specs.List.{AllByRecursion, flat_map}
use Rattle.pm_types.specs.declared.limits.TheConstants.{FIELDS}
use Rattle.pm_types.specs.declared.object.Slot.TheVariants.{Live}
use Rattle.pm_layout.specs.Spelling.{HasCar, HasSpelling, field, spelling}
use Rattle.pm_graphs.specs.Settled.Behind.{IsBehind}
use Rattle.pm_graphs.specs.Settled.Packed.{head_spelling}
use Rattle.pm_graphs.proofs.SettledLemmas.BehindLaws.{behind_both, behind_of, none_first, object_text}
use Rattle.pm_graphs.proofs.settled.matching.behind_object.Goals as goal

pub returns-in_default-clause-behind : goal.returns-in_default-clause-behind
returns-in_default-clause-behind c has =
    let o = c.args.object.now in
    let fields = c.as_slice-fields.result.now in
    let octets = c.as_slice-data.result.now in
    subst (λ (text : List ℕ). IsBehind c.args.bytes.now text None) (object_text o fields octets c.as_slice-fields.ensures c.as_slice-data.ensures)
    (none_first c.args.bytes.now (head_spelling o.id (length fields) (length octets)) (flat_map field fields ++ octets) c.in_default.ensures)

pub returns-in_default-behind_fields-clause-behind : goal.returns-in_default-behind_fields-clause-behind
returns-in_default-behind_fields-clause-behind c has =
    let o = c.args.object.now in
    let fields = c.as_slice-fields.result.now in
    let octets = c.as_slice-data.result.now in
    let mid = c.in-Some.rest.now in
    let cars : AllByRecursion HasCar fields = subst (AllByRecursion HasCar) (sym c.as_slice-fields.ensures) has.numbered.1 in
    subst (λ (text : List ℕ). IsBehind c.args.bytes.now text None) (object_text o fields octets c.as_slice-fields.ensures c.as_slice-data.ensures)
    (behind_both c.args.bytes.now mid (head_spelling o.id (length fields) (length octets)) (flat_map field fields ++ octets) None c.in-Some.ensures
    (none_first mid (flat_map field fields) octets (c.in_default-behind_fields.ensures.behind cars)))

pub returns-clause-behind : goal.returns-clause-behind
returns-clause-behind c =
    let o = c.args.object.now in
    let fields = c.as_slice-fields.result.now in
    let octets = c.as_slice-data.result.now in
    let mid = c.in-Some.rest.now in
    let end = c.in-Some-behind_fields.rest.now in
    let rest = option_map (λ rest. rest.now) c.behind.result in
    let of_fields = c.in-Some-behind_fields.ensures.behind in
    let id = c.if-object-eq0.false in
    let few = c.if-fields.false in
    let short = c.if-data-gt-OBJECT_BYTES.false in
    let same_fields : length fields ≡ length o.fields = ap length c.as_slice-fields.ensures in
    let same_data : length octets ≡ length o.bytes = ap length c.as_slice-data.ensures in
    let has : HasSpelling FIELDS (Live o) = record {
      within = (omega (arith, few, same_fields), omega (arith, short, same_data));
      numbered = (omega (arith, id), subst (AllByRecursion HasCar) c.as_slice-fields.ensures of_fields.1);
    } in
    behind_of (HasSpelling FIELDS (Live o)) c.args.bytes.now (spelling (Live o)) rest has
    (subst (λ (text : List ℕ). IsBehind c.args.bytes.now text rest) (object_text o fields octets c.as_slice-fields.ensures c.as_slice-data.ensures)
    (behind_both c.args.bytes.now mid (head_spelling o.id (length fields) (length octets)) (flat_map field fields ++ octets) rest c.in-Some.ensures
    (behind_both mid end (flat_map field fields) octets rest of_fields.0 c.behind.ensures)))
