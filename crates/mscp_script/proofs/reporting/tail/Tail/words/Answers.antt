use Rattle.mscp_script.proofs.Common.{◌≡◌, ◌+◌, ◌-◌, ◌<◌, ◌++◌, ◌∷◌, ℕ, List, drop, get_or, length, ap, ◌∙◌, arith, drop-set}
use Rattle.std.proofs.Common.{set, sym}
use Rattle.std.proofs.lemmas.List.{drop_more, length-set}
use Rattle.mscp_script.proofs.reporting.tail.Tail.words.Goals as goal

-- one byte more in front
put_front : (room bytes old : List ℕ) (s k : ℕ) → s < length room → k < length bytes
    → drop (s + 1) room ≡ drop (k + 1) bytes ++ old → drop s (set room s (get_or bytes k 0)) ≡ drop k bytes ++ old
put_front room bytes old s k inside there e = drop-set room s (get_or bytes k 0) inside
    ∙ (ap (λ xs. get_or bytes k 0 ∷ xs) e ∙ ap (λ xs. xs ++ old) (sym (drop_more bytes k 0 there)))

pub loop-i-preserved : goal.loop-i-preserved
loop-i-preserved c =
    let room = c.loop-i.self-inside.room in
    let bytes = c.as_bytes-bytes.result.now in
    let i = c.loop-i.i in
    let start = c.self.inside.start in
    let before = c.loop-i.invariant in
    let more = c.loop-i-test.true in
    let fits = c.requires in
    let same = c.as_bytes-bytes.ensures.len in
    let s : start - 1 - i ≡ start - (i + 1) = omega arith in
    let k : length bytes - 1 - i ≡ length bytes - (i + 1) = omega arith in
    let up : start - i ≡ start - 1 - i + 1 = omega (arith, before.end, more, fits, same) in
    let on : length bytes - i ≡ length bytes - 1 - i + 1 = omega (arith, more) in
    record {
      end = before.end;
      long = length-set room (start - 1 - i) _ ∙ before.long;
      written = ap (λ n. drop n (set room (start - 1 - i) (get_or bytes (length bytes - 1 - i) 0))) (sym s)
          ∙ (put_front room bytes c.args.self.now (start - 1 - i) (length bytes - 1 - i)
          (omega (arith, before.long, before.end, more, fits, same)) (omega (arith, more))
          (ap (λ n. drop n room) (sym up) ∙ (before.written ∙ ap (λ n. drop n bytes ++ c.args.self.now) on))
          ∙ ap (λ n. drop n bytes ++ c.args.self.now) k);
    }

pub returns : goal.returns
returns c =
    let room = c.loop-i.self-inside.room in
    let bytes = c.as_bytes-bytes.result.now in
    let whole : length bytes ≡ c.loop-i.i = omega (arith, c.loop-i-test.false, c.loop-i.auto.i-end) in
    let none : length bytes - c.loop-i.i ≡ 0 = omega (arith, whole) in
    ap (λ n. drop (c.self.inside.start - n) room) whole
    ∙ (c.loop-i.invariant.written ∙ (ap (λ n. drop n bytes ++ c.args.self.now) none
    ∙ ap (λ xs. xs ++ c.args.self.now) c.as_bytes-bytes.ensures.value))
