use Rattle.std.proofs.Common.{◌≡◌, map, take}
use Rattle.pm_dump.specs.declared.parts.DumpRoot.{DumpRoot}
use Rattle.pm_restore.specs.Packing.Packing.{address_of}
use Rattle.pm_restore.proofs.names.named.Given as goal

abbrev pub invariant-loop-root : goal.invariant-loop-root
invariant-loop-root l = l.names.items ≡ map (λ (root : DumpRoot). (root.name, address_of l.dump.objects root.id)) (take l.root-index l.roots)
