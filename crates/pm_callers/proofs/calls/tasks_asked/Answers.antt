use Rattle.std.proofs.Common.{List, arith, ap, ◌∙◌}
use Rattle.pm_types.specs.declared.command.Cmd.{Cmd}
use Rattle.pm_script.specs.Parted.Lists.{list_of}
use Rattle.pm_callers.proofs.Asking.{are_asked}
use Rattle.pm_callers.proofs.calls.tasks_asked.Goals as goal

pub returns : goal.returns
returns c =
    let split = c.in_ok-parts.ensures in
    let lists = c.into_lists.ensures in
    let collects = c.collects_asked-collects.ensures in
    let flushes = c.flushes_asked-flushes.ensures in
    let all = split.all in
    let few = split.few in
    let made = collects.all in
    let few_made = collects.few in
    let flushed = flushes.all in
    let few_flushed = flushes.few in
    are_asked c.args.script c.in_ok-tasks.tasks.items c.into_lists.result.items c.collects_asked-collects.result c.flushes_asked-flushes.result c.in_ok-tasks.ensures lists.eight
    (λ client. ap (λ (l : List (List Cmd)). list_of l client) lists.lists ∙ split.each client) made flushed (omega (arith, all, few, made, few_made, flushed, few_flushed))
