use Rattle.std.proofs.Common.{◌+◌, List, ℕ, Ok, sym, ap, subst, ◌∙◌, arith}
use Rattle.std.specs.List.{slice_range}
use Rattle.pm_types.specs.Names.{IsName}
use Rattle.pm_types.specs.NameFaults.{IsFirstFault}
use Rattle.pm_types.specs.declared.name.NameFault.{NameFault}
use Rattle.pm_image.proofs.CatalogReads.{named, nameless, name_too_long, badly_named}
use Rattle.pm_image.proofs.catalog_reading.name_at.Goals as goal

pub returns-in-Ok : goal.returns-in-Ok
returns-in-Ok c =
    named c.args.page.now c.args.at c.args.len c.args.place (omega arith) (subst (λ (t : List ℕ). IsName t) c.in-Ok.ensures.same c.in-Ok.ensures.named)
    ∙ ap (λ (t : List ℕ). Ok t) (sym c.in-Ok.ensures.same)

pub returns-in-Err-Empty : goal.returns-in-Err-Empty
returns-in-Err-Empty c =
    let name = slice_range c.args.page.now c.args.place (c.args.place + c.args.len) in
    let fault = subst (λ (f : NameFault). IsFirstFault f name) c.in-Err-Empty.field-0-is c.in-Err-Empty.ensures.fault in
    rw c.malformed.ensures (nameless c.args.page.now c.args.at c.args.len c.args.place (omega arith) fault)

pub returns-in-Err-TooLong : goal.returns-in-Err-TooLong
returns-in-Err-TooLong c =
    let name = slice_range c.args.page.now c.args.place (c.args.place + c.args.len) in
    let fault = subst (λ (f : NameFault). IsFirstFault f name) c.in-Err-TooLong.field-0-is c.in-Err-TooLong.ensures.fault in
    rw c.malformed-in-Err-TooLong.ensures (name_too_long c.args.page.now c.args.at c.args.len c.args.place (omega arith) fault.0)

pub returns-in-Err-BadByte : goal.returns-in-Err-BadByte
returns-in-Err-BadByte c =
    let name = slice_range c.args.page.now c.args.place (c.args.place + c.args.len) in
    let fault = subst (λ (f : NameFault). IsFirstFault f name) c.in-Err-BadByte.field-0-is c.in-Err-BadByte.ensures.fault in
    rw c.malformed-in-Err-BadByte.ensures (badly_named c.args.page.now c.args.at c.args.len c.args.place c.in-Err-BadByte.ahead (omega arith) fault.0 fault.1)
