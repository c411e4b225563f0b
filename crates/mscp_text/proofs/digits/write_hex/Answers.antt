use Rattle.std.proofs.Common.{arith, ℕ, ap, ◌∙◌, slice_index}
use Rattle.std.proofs.lemmas.List.{length-set}
use Rattle.std.proofs.lemmas.Nat.{and_mask}
use Rattle.hex.specs.Hex.{lower_digits}
use Rattle.hex.proofs.Pairs.{encode_done, encode_step}
use Rattle.mscp_text.proofs.digits.write_hex.Goals as goal

pub loop-i-preserved : goal.loop-i-preserved
loop-i-preserved c =
    let byte : ℕ = slice_index c.args.bytes.now c.loop-i.i in
    let long = c.loop-i.invariant.long in
    let inside = c.loop-i-test.true in
    record {
      long = search (arith, length-set);
      written = encode_step lower_digits c.args.bytes.now c.loop-i.digits c.loop-i.i _ _ inside
          (omega (arith, long, inside))
          c.digit.ensures (c.digit-in-loop-i.ensures ∙ ap (λ (k : ℕ). slice_index lower_digits k) (and_mask byte 4))
          c.loop-i.invariant.written;
    }

pub returns : goal.returns
returns c =
    let long = c.loop-i.invariant.long in
    encode_done _ _ _ c.loop-i.i (omega arith) (omega (arith, long)) c.loop-i.invariant.written
