use Rattle.std.proofs.Common.{◌≡◌, ◌∙◌, ◌==◌, ◌++◌, true, false, ◌<◌, ◌-◌, ◌^◌, ℕ, List, sym, ap, subst, arith, length, slice_get}
use Rattle.std.proofs.lemmas.Result.{err_from_is_err_and}
use Rattle.std.specs.Option.{MatchOption}
use Rattle.pm_dump.specs.declared.parts.Place.{Place}
use Rattle.pm_dump.specs.Read.{words_in, dump_in, IsAbovePlaces}
use Rattle.pm_dump.proofs.PartsLemmas.{object_closed, object_behind, object_over, object_fields, object_done, ends_done, above_back, above_cap, above_same, same_above, not_under, none_shown, empty_list, some_list, not_both}
use Rattle.pm_dump.proofs.line.read_object.Goals as goal

pub returns-then-not-is_empty-clause-err : goal.returns-then-not-is_empty-clause-err
returns-then-not-is_empty-clause-err c =
    let parts = c.args.parts.now in
    let o = c.in_ok-object.object in
    object_closed parts.ended (dump_in parts).roots (dump_in parts).objects parts.next o.id (words_in c.args.words) o.bytes.items o.count (words_in o.words) c.in_ok-object.ensures.ok
    (λ zero. none_shown parts.places.items parts.fields.items parts.bytes.items (c.requires.kept.no_objects zero)) (λ may. some_list parts.roots.items (subst (λ (n : ℕ). (n == 0) ≡ false) parts.roots.ok.0 (sym c.is_empty.ensures ∙ c.if-not-is_empty.true)) may.1)

pub returns-then-not-ascends-clause-err : goal.returns-then-not-ascends-clause-err
returns-then-not-ascends-clause-err c =
    let parts = c.args.parts.now in
    let o = c.in_ok-object.object in
    let is = c.in_ok-object.ensures.ok in
    let opened = c.is_open.ensures.0 c.if-not-is_open.false in
    let small = subst (λ (ps : List Place). MatchOption (slice_get ps (length ps - 1)) (Unit {0}) (λ place. place.id < 2 ^ 32)) c.deref.ensures.value c.ascends.ensures.small in
    object_behind parts.ended (dump_in parts).roots (dump_in parts).objects parts.next o.id (words_in c.args.words) o.bytes.items o.count (words_in o.words) is opened.1
    (empty_list parts.roots.items (subst (λ (n : ℕ). (n == 0) ≡ true) parts.roots.ok.0 (sym c.is_empty.ensures ∙ c.if-not-is_empty.false))) opened.0
    (λ above.
    not_both c.ascends.result
    (c.ascends.ensures.told.1 (subst (λ (ps : List Place). IsAbovePlaces ps o.id) (sym c.deref.ensures.value) (above_back parts.places.items is.id o.id is.is small (above_same parts.places.items parts.fields.items parts.bytes.items is.id above))))
    c.if-not-ascends.true)

pub returns-then-object-parts-clause-err : goal.returns-then-object-parts-clause-err
returns-then-object-parts-clause-err c =
    let parts = c.args.parts.now in
    let o = c.in_ok-object.object in
    let is = c.in_ok-object.ensures.ok in
    let opened = c.is_open.ensures.0 c.if-not-is_open.false in
    let above = subst (λ (ps : List Place). IsAbovePlaces ps o.id) c.deref.ensures.value (c.ascends.ensures.told.0 c.if-not-ascends.false) in
    object_over parts.ended (dump_in parts).roots (dump_in parts).objects parts.next o.id (words_in c.args.words) o.bytes.items o.count (words_in o.words) is opened.1
    (empty_list parts.roots.items (subst (λ (n : ℕ). (n == 0) ≡ true) parts.roots.ok.0 (sym c.is_empty.ensures ∙ c.if-not-is_empty.false))) opened.0
    (same_above parts.places.items parts.fields.items parts.bytes.items is.id (above_cap parts.places.items is.id o.id is.is above))
    (λ within. not_under is.id o.id parts.next is.is c.if-object-parts.true c.requires.kept.last within.is_id)

pub returns-then-object-from-clause-err : goal.returns-then-object-from-clause-err
returns-then-object-from-clause-err c =
    let parts = c.args.parts.now in
    let o = c.in_ok-object.object in
    let is = c.in_ok-object.ensures.ok in
    let opened = c.is_open.ensures.0 c.if-not-is_open.false in
    let above = subst (λ (ps : List Place). IsAbovePlaces ps o.id) c.deref.ensures.value (c.ascends.ensures.told.0 c.if-not-ascends.false) in
    object_over parts.ended (dump_in parts).roots (dump_in parts).objects parts.next o.id (words_in c.args.words) o.bytes.items o.count (words_in o.words) is opened.1
    (empty_list parts.roots.items (subst (λ (n : ℕ). (n == 0) ≡ true) parts.roots.ok.0 (sym c.is_empty.ensures ∙ c.if-not-is_empty.false))) opened.0
    (same_above parts.places.items parts.fields.items parts.bytes.items is.id (above_cap parts.places.items is.id o.id is.is above))
    (λ within. let few = within.few in let count = is.counted in let over = c.if-object-from.true in let limit = c.from.ensures in omega (arith, few, count, over, limit))

pub returns-then-len-gt-OBJECT_BYTES-clause-err : goal.returns-then-len-gt-OBJECT_BYTES-clause-err
returns-then-len-gt-OBJECT_BYTES-clause-err c =
    let parts = c.args.parts.now in
    let o = c.in_ok-object.object in
    let is = c.in_ok-object.ensures.ok in
    let opened = c.is_open.ensures.0 c.if-not-is_open.false in
    let above = subst (λ (ps : List Place). IsAbovePlaces ps o.id) c.deref.ensures.value (c.ascends.ensures.told.0 c.if-not-ascends.false) in
    object_over parts.ended (dump_in parts).roots (dump_in parts).objects parts.next o.id (words_in c.args.words) o.bytes.items o.count (words_in o.words) is opened.1
    (empty_list parts.roots.items (subst (λ (n : ℕ). (n == 0) ≡ true) parts.roots.ok.0 (sym c.is_empty.ensures ∙ c.if-not-is_empty.false))) opened.0
    (same_above parts.places.items parts.fields.items parts.bytes.items is.id (above_cap parts.places.items is.id o.id is.is above))
    (λ within. let short = within.short in let over = c.if-len-gt-OBJECT_BYTES.true in let long = c.len.ensures in omega (arith, short, over, long))

pub returns-in_err-push_fields-clause-err : goal.returns-in_err-push_fields-clause-err
returns-in_err-push_fields-clause-err c =
    let parts = c.args.parts.now in
    let o = c.in_ok-object.object in
    let is = c.in_ok-object.ensures.ok in
    let opened = c.is_open.ensures.0 c.if-not-is_open.false in
    let above = subst (λ (ps : List Place). IsAbovePlaces ps o.id) c.deref.ensures.value (c.ascends.ensures.told.0 c.if-not-ascends.false) in
    let p = err_from_is_err_and c.from_residual-in_err-push_fields.result c.from_residual-in_err-push_fields.ensures.1 in
    rw (p.1, p.2)
    (object_fields c.in_err-push_fields.field-0.0 parts.ended (dump_in parts).roots (dump_in parts).objects parts.next o.id (words_in c.args.words) o.bytes.items o.count (words_in o.words) is opened.1
    (empty_list parts.roots.items (subst (λ (n : ℕ). (n == 0) ≡ true) parts.roots.ok.0 (sym c.is_empty.ensures ∙ c.if-not-is_empty.false))) opened.0
    (same_above parts.places.items parts.fields.items parts.bytes.items is.id (above_cap parts.places.items is.id o.id is.is above)) c.in_err-push_fields.ensures.err)

pub returns-clause-ok : goal.returns-clause-ok
returns-clause-ok c =
    let parts = c.args.parts.now in
    let o = c.in_ok-object.object in
    let is = c.in_ok-object.ensures.ok in
    let opened = c.is_open.ensures.0 c.if-not-is_open.false in
    let above = subst (λ (ps : List Place). IsAbovePlaces ps o.id) c.deref.ensures.value (c.ascends.ensures.told.0 c.if-not-ascends.false) in
    let place : Place = record { id = o.id; fields = c.len-2.result; bytes = c.len-3.result } in
    object_done parts.ended (dump_in parts).roots parts.places.items parts.fields.items c.push_fields.new.fields.items parts.bytes.items c.extend_from_slice.new.self.items o.bytes.items parts.next o.id o.count (words_in c.args.words) (words_in o.words) place
    c.push.new.self.items is opened.1 (empty_list parts.roots.items (subst (λ (n : ℕ). (n == 0) ≡ true) parts.roots.ok.0 (sym c.is_empty.ensures ∙ c.if-not-is_empty.false))) opened.0 above c.requires.kept.last c.if-object-parts.false
    (let few = c.if-object-from.false in let limit = c.from.ensures in omega (arith, few, limit)) (let short = c.if-len-gt-OBJECT_BYTES.false in let long = c.len.ensures in omega (arith, short, long)) c.in_ok-push_fields.ensures.ok
    (c.in_ok-extend_from_slice.ensures.items ∙ ap (λ (xs : List ℕ). parts.bytes.items ++ xs) c.deref-2.ensures.value) (λ i. record { id = o.id; fields = (c.len-2.ensures ∙ c.push_fields.new.fields.ok.0) i; bytes = (c.len-3.ensures ∙ c.extend_from_slice.new.self.ok.0) i }) c.in_ok-push.ensures.items c.requires.kept.ends

pub returns-clause-kept : goal.returns-clause-kept
returns-clause-kept c =
    let parts = c.args.parts.now in
    let o = c.in_ok-object.object in
    let opened = c.is_open.ensures.0 c.if-not-is_open.false in
    let place : Place = record { id = o.id; fields = c.len-2.result; bytes = c.len-3.result } in
    record {
      last = c.requires.kept.last;
      ends =
          ends_done parts.places.items parts.fields.items c.push_fields.new.fields.items parts.bytes.items c.extend_from_slice.new.self.items o.bytes.items parts.next o.id (words_in o.words) place c.push.new.self.items
          c.in_ok-push_fields.ensures.ok (c.in_ok-extend_from_slice.ensures.items ∙ ap (λ (xs : List ℕ). parts.bytes.items ++ xs) c.deref-2.ensures.value) (λ i. record { id = o.id; fields = (c.len-2.ensures ∙ c.push_fields.new.fields.ok.0) i; bytes = (c.len-3.ensures ∙ c.extend_from_slice.new.self.ok.0) i }) c.in_ok-push.ensures.items c.requires.kept.ends;
      no_objects = λ zero. absurd (let some = opened.0 in omega (arith, zero, some));
      no_roots = c.requires.kept.no_roots;
      no_end = c.requires.kept.no_end;
    }
