use Rattle.mscp_reader.proofs.Common.{◌-◌, ◌≡◌, ◌<◌, ◌≤◌, ◌^◌, true, length, take, list_all, digits_value, is_digit}
use Rattle.mscp_reader.proofs.plain.numeral_of.Given as goal

abbrev pub invariant-loop-digits : goal.invariant-loop-digits
invariant-loop-digits l = record {
  most : l.digits ≤ l.most;
  few : l.most ≤ 10;
  within : l.most ≤ length l.bytes;
  all : list_all is_digit (take l.digits l.bytes) ≡ true;
  value : l.value ≡ digits_value 10 (take l.digits l.bytes);
  small : l.value < 10 ^ l.digits;
}

abbrev pub decreases-loop-digits : goal.decreases-loop-digits
decreases-loop-digits l = l.most - l.digits
