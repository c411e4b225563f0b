use Rattle.mscp_reader.proofs.Common.{◌≡◌, ◌<◌, ◌^◌, true, take, list_all, digits_value, is_digit}
use Rattle.mscp_reader.proofs.numbers.number.Given as goal

abbrev pub invariant-loop-digit : goal.invariant-loop-digit
invariant-loop-digit l = record {
  digits : list_all is_digit (take l.digit-index l.word) ≡ true;
  value : l.value ≡ digits_value 10 (take l.digit-index l.word);
  small : l.value < 10 ^ l.digit-index;
}
