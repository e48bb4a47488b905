use Rattle.std.proofs.Common.{◌≡◌, ◌≤◌, ◌^◌, MatchOption, true, take}
use Rattle.std.specs.List.{list_all}
use Rattle.std.specs.Char.{is_digit}
use Rattle.ap_text.specs.Numbers.{value_in}
use Rattle.ap_text.proofs.numbers.value.Given as goal

abbrev pub invariant-loop-byte : goal.invariant-loop-byte
invariant-loop-byte l = record {
  digits : list_all (λ b. is_digit b l.base) (take l.byte-index l.digits) ≡ true;
  value : MatchOption l.value (2 ^ 64 ≤ value_in l.base (take l.byte-index l.digits)) (λ v. v ≡ value_in l.base (take l.byte-index l.digits));
}
