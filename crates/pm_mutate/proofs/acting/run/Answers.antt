use Rattle.std.proofs.Common.{◌≡◌, List, ℕ, subst, Ok, IfOk}
use Rattle.pm_types.specs.declared.command.Cmd.TheVariants.{New, Load, Store, Clear, Show, Put, Copy, IdOf, Forget, Bind, Unbind, Find, Swap, Close}
use Rattle.pm_view.specs.Commands.{register, row_put}
use Rattle.pm_space.specs.Shown.{view}
use Rattle.pm_space.proofs.OpenedCars.{lowest_vacant}
use Rattle.pm_mutate.proofs.Carried.{as_row, of_row, of_row_of_car, of_row_of_root}
use Rattle.pm_mutate.proofs.CommandsLemmas.Made.{made_as, made_still}
use Rattle.pm_mutate.proofs.acting.run.Goals as goal

pub returns-in-New : goal.returns-in-New
returns-in-New g c = record {
  row = made_as c.new.ensures.row
      (of_row_of_car (view c.args.parts.now) (view c.new.new.parts) c.args.client c.args.cmd.now c.vacant-number.result (lowest_vacant c.args.parts.now.cars c.vacant-number.result c.vacant-number.ensures)
      (New c.in-New.reg c.in-New.count c.in-New.bytes) c.in-New.is c.new.result c.new.ensures.row.ok);
}

pub returns-in-Load : goal.returns-in-Load
returns-in-Load g c = record {
  row = made_as c.load.ensures.row
      (of_row (view c.args.parts.now) (view c.load.new.parts) c.args.client c.args.cmd.now c.vacant-number.result (lowest_vacant c.args.parts.now.cars c.vacant-number.result c.vacant-number.ensures)
      (Load c.in-Load.to c.in-Load.reg c.in-Load.index) c.in-Load.is c.load.result c.load.ensures.row.ok);
}

pub returns-in-Store : goal.returns-in-Store
returns-in-Store g c = record {
  row = made_as c.store.ensures.row
      (of_row (view c.args.parts.now) (view c.store.new.parts) c.args.client c.args.cmd.now c.vacant-number.result (lowest_vacant c.args.parts.now.cars c.vacant-number.result c.vacant-number.ensures)
      (Store c.in-Store.reg c.in-Store.index c.in-Store.value) c.in-Store.is c.store.result c.store.ensures.row.ok);
}

pub returns-in-Clear : goal.returns-in-Clear
returns-in-Clear g c = record {
  row = made_as c.clear.ensures.row
      (of_row (view c.args.parts.now) (view c.clear.new.parts) c.args.client c.args.cmd.now c.vacant-number.result (lowest_vacant c.args.parts.now.cars c.vacant-number.result c.vacant-number.ensures)
      (Clear c.in-Clear.reg c.in-Clear.index) c.in-Clear.is c.clear.result c.clear.ensures.row.ok);
}

pub returns-in-Show : goal.returns-in-Show
returns-in-Show g c = record {
  row = made_still c.args.parts.now c.data.result
      (of_row (view c.args.parts.now) (view c.args.parts.now) c.args.client c.args.cmd.now c.vacant-number.result (lowest_vacant c.args.parts.now.cars c.vacant-number.result c.vacant-number.ensures)
      (Show c.in-Show.reg) c.in-Show.is c.data.result c.data.ensures);
}

pub returns-in-Put : goal.returns-in-Put
returns-in-Put g c = record {
  row = made_as c.put.ensures.row
      (of_row (view c.args.parts.now) (view c.put.new.parts) c.args.client c.args.cmd.now c.vacant-number.result (lowest_vacant c.args.parts.now.cars c.vacant-number.result c.vacant-number.ensures)
      (Put c.in-Put.reg c.in-Put.at c.in-Put.bytes) c.in-Put.is c.put.result
      (subst (λ (bytes : List ℕ). IfOk c.put.result (λ reply. (reply, view c.put.new.parts) ≡ row_put (view c.args.parts.now) c.in-Put.at bytes (register (view c.args.parts.now) c.args.client c.in-Put.reg)))
      c.as_slice.ensures c.put.ensures.row.ok));
}

pub returns-in-Copy : goal.returns-in-Copy
returns-in-Copy g c = record {
  row = made_as c.copy.ensures.row
      (of_row (view c.args.parts.now) (view c.copy.new.parts) c.args.client c.args.cmd.now c.vacant-number.result (lowest_vacant c.args.parts.now.cars c.vacant-number.result c.vacant-number.ensures)
      (Copy c.in-Copy.to c.in-Copy.reg) c.in-Copy.is c.copy.result c.copy.ensures.row.ok);
}

pub returns-in-IdOf : goal.returns-in-IdOf
returns-in-IdOf g c = record {
  row = made_still c.args.parts.now (Ok c.id.result)
      (as_row (view c.args.parts.now) (view c.args.parts.now) c.args.client c.args.cmd.now c.vacant-number.result (lowest_vacant c.args.parts.now.cars c.vacant-number.result c.vacant-number.ensures)
      (IdOf c.in-IdOf.reg) c.in-IdOf.is c.id.result c.id.ensures);
}

pub returns-in-Forget : goal.returns-in-Forget
returns-in-Forget g c = record {
  row = made_as c.forget.ensures.row
      (of_row (view c.args.parts.now) (view c.forget.new.parts) c.args.client c.args.cmd.now c.vacant-number.result (lowest_vacant c.args.parts.now.cars c.vacant-number.result c.vacant-number.ensures)
      (Forget c.in-Forget.reg) c.in-Forget.is c.forget.result c.forget.ensures.row.ok);
}

pub returns-in-Bind : goal.returns-in-Bind
returns-in-Bind g c = record {
  row = made_as c.root.ensures.row
      (of_row_of_root (view c.args.parts.now) (view c.root.new.parts) c.args.client c.args.cmd.now c.vacant-number.result (lowest_vacant c.args.parts.now.cars c.vacant-number.result c.vacant-number.ensures)
      (Bind c.in-Bind.name c.in-Bind.reg) c.in-Bind.is c.root.result c.root.ensures.row.ok);
}

pub returns-in-Unbind : goal.returns-in-Unbind
returns-in-Unbind g c = record {
  row = made_as c.unroot.ensures.row
      (of_row (view c.args.parts.now) (view c.unroot.new.parts) c.args.client c.args.cmd.now c.vacant-number.result (lowest_vacant c.args.parts.now.cars c.vacant-number.result c.vacant-number.ensures)
      (Unbind c.in-Unbind.name) c.in-Unbind.is c.unroot.result c.unroot.ensures.row.ok);
}

pub returns-in-Find : goal.returns-in-Find
returns-in-Find g c = record {
  row = made_as c.find.ensures.row
      (of_row (view c.args.parts.now) (view c.find.new.parts) c.args.client c.args.cmd.now c.vacant-number.result (lowest_vacant c.args.parts.now.cars c.vacant-number.result c.vacant-number.ensures)
      (Find c.in-Find.to c.in-Find.name) c.in-Find.is c.find.result c.find.ensures.row.ok);
}

pub returns-in-Swap : goal.returns-in-Swap
returns-in-Swap g c = record {
  row = made_as c.swap.ensures.row
      (of_row (view c.args.parts.now) (view c.swap.new.parts) c.args.client c.args.cmd.now c.vacant-number.result (lowest_vacant c.args.parts.now.cars c.vacant-number.result c.vacant-number.ensures)
      (Swap c.in-Swap.reg c.in-Swap.index c.in-Swap.old c.in-Swap.value) c.in-Swap.is c.swap.result c.swap.ensures.row.ok);
}

pub returns-in-Close : goal.returns-in-Close
returns-in-Close g c = record {
  row = made_as c.close.ensures.row
      (of_row (view c.args.parts.now) (view c.close.new.parts) c.args.client c.args.cmd.now c.vacant-number.result (lowest_vacant c.args.parts.now.cars c.vacant-number.result c.vacant-number.ensures)
      Close c.in-Close.is c.close.result c.close.ensures.row.ok);
}
