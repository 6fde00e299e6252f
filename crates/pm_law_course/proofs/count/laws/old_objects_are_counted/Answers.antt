use Rattle.std.proofs.Common.{sym, ◌∙◌}
use Rattle.pm_law_course.proofs.CountLemmas.Trains.{old_counted, all_counted, up_to_once, own_once, every_once, home_both, own_home, every_home}
use Rattle.pm_law_course.proofs.count.laws.old_objects_are_counted.Goals as goal

pub returns-clause-up_to : goal.returns-clause-up_to
returns-clause-up_to c = λ view number. old_counted view number view.trains.trains

pub returns-clause-up_to_once : goal.returns-clause-up_to_once
returns-clause-up_to_once c = λ view number law. up_to_once view.trains.trains law.built.trains.single number

pub returns-clause-up_to_home : goal.returns-clause-up_to_home
returns-clause-up_to_home c = λ view number car law. home_both number car view.trains.trains law.built.trains.rising

pub returns-clause-train_once : goal.returns-clause-train_once
returns-clause-train_once c = λ view train law is. own_once view.trains.trains law.built.trains.single train.number train.cars is

pub returns-clause-train_home : goal.returns-clause-train_home
returns-clause-train_home c = λ view train car law is. own_home train.number car train.cars view.trains.trains law.built.trains.rising (law.built.trains.single car) is

pub returns-clause-all : goal.returns-clause-all
returns-clause-all c = λ view. all_counted view view.trains.trains

pub returns-clause-all_once : goal.returns-clause-all_once
returns-clause-all_once c = λ view law. every_once view.trains.trains law.built.trains.single

pub returns-clause-all_home : goal.returns-clause-all_home
returns-clause-all_home c = λ view car law. (
  λ among. sym (law.built.linked car) ∙ sym (every_home car view.trains.trains) ∙ among,
  λ stands. every_home car view.trains.trains ∙ law.built.linked car ∙ stands,
)
