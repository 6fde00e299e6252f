use Rattle.std.proofs.Common.{◌≡◌, true, take}
use Rattle.std.specs.List.{list_all}
use Rattle.std.specs.Str.Parse.{digits_value}
use Rattle.pm_script.specs.Values.{is_digit}
use Rattle.pm_script.proofs.value.digits.Given as goal

abbrev pub invariant-loop-byte : goal.invariant-loop-byte
invariant-loop-byte l = record {
  all : list_all is_digit (take l.byte-index l.word) ≡ true;
  value : l.value ≡ digits_value 10 (take l.byte-index l.word);
}
