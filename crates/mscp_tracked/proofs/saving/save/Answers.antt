use Rattle.mscp_saved.specs.Restored as saved
use Rattle.mscp_saved.specs.Saved as saving
use Rattle.mscp_tracked.proofs.Common.{List, ℕ, ◌++◌, ◌<◌, ◌^◌, ◌≡◌, ◌∙◌, Ok, Holdings, ap, append_assoc, subst, arith, length, little_bytes, restored, words_bytes}
use Rattle.mscp_tracked.proofs.Keeping.{few}
use Rattle.mscp_tracked.proofs.Back.{AreSmall, saved_back}
use Rattle.mscp_tracked.proofs.saving.save.Goals as goal

behind_one_another : (a b c d e : List ℕ) {v w x y z : List ℕ} → v ≡ a → w ≡ v ++ b → x ≡ w ++ c → y ≡ x ++ d
    → z ≡ y ++ e → z ≡ a ++ (b ++ (c ++ (d ++ e)))
behind_one_another a b c d e f g h i j = search (
  arith,
  append_assoc a b (c ++ (d ++ e)),
  append_assoc (a ++ b) c (d ++ e),
  append_assoc ((a ++ b) ++ c) d e,
)

pub put_eight-requires : goal.put_eight-requires
put_eight-requires g c =
    let t = c.cookies.ensures.tracked in
    let e = ap length c.cookies.ensures.value in
    let f = ap length c.untaken_cookies.ensures in
    let s = ap length c.untaken_cookies-2.ensures in
    let empty = ap length c.new-out.ensures in (
      omega arith,
      omega (
        arith,
        few t.valid t.account,
        t.beside.waiting,
        t.beside.first,
        t.beside.second,
        e,
        f,
        s,
        empty,
        c.as_slice.ensures.fits,
        c.put.ensures.len,
        c.put_words.ensures.len,
        c.put_words-2.ensures.len,
        c.put_words-3.ensures.len,
      ),
    )

pub returns-clause-bytes : goal.returns-clause-bytes
returns-clause-bytes g c =
    let K = g.row.K.Denot in
    behind_one_another _ _ _ _ _ (c.put.ensures.items ∙ ap (λ xs. xs ++ c.as_slice.result.now) c.new-out.ensures
    ∙ (c.as_slice.ensures.value ∙ (c.save.ensures.bytes
    ∙ ap (λ (h : Holdings K). saving.saved_bytes c.args.number h) c.controller.ensures)))
    (c.put_words.ensures.items ∙ ap (λ xs. c.put.new.out.items ++ words_bytes xs) c.cookies.ensures.value)
    (c.put_words-2.ensures.items ∙ ap (λ xs. c.put_words.new.out.items ++ words_bytes xs) c.untaken_cookies.ensures)
    (c.put_words-3.ensures.items ∙ ap (λ xs. c.put_words-2.new.out.items ++ words_bytes xs) c.untaken_cookies-2.ensures)
    (c.put_eight.ensures.items ∙ ap (λ n. c.put_words-3.new.out.items ++ little_bytes 8 n) c.beginnings.ensures)

pub returns-clause-back : goal.returns-clause-back
returns-clause-back g c =
    let K = g.row.K.Denot in
    let t = c.args.tracked.now in
    ap (restored c.args.number t.controller.picker) (behind_one_another _ _ _ _ _
    (c.put.ensures.items ∙ ap (λ xs. xs ++ c.as_slice.result.now) c.new-out.ensures
    ∙ (c.as_slice.ensures.value ∙ (c.save.ensures.bytes
    ∙ ap (λ (h : Holdings K). saving.saved_bytes c.args.number h) c.controller.ensures)))
    (c.put_words.ensures.items ∙ ap (λ xs. c.put.new.out.items ++ words_bytes xs) c.cookies.ensures.value)
    (c.put_words-2.ensures.items ∙ ap (λ xs. c.put_words.new.out.items ++ words_bytes xs) c.untaken_cookies.ensures)
    (c.put_words-3.ensures.items ∙ ap (λ xs. c.put_words-2.new.out.items ++ words_bytes xs) c.untaken_cookies-2.ensures)
    (c.put_eight.ensures.items ∙ ap (λ n. c.put_words-3.new.out.items ++ little_bytes 8 n) c.beginnings.ensures))
    ∙ saved_back t c.cookies.ensures.tracked.beside (record {
      waiting = subst AreSmall c.cookies.ensures.value c.put_words.ensures.range;
      first = subst AreSmall c.untaken_cookies.ensures c.put_words-2.ensures.range;
      second = subst AreSmall c.untaken_cookies-2.ensures c.put_words-3.ensures.range;
      count = subst (λ n. n < 2 ^ 64) c.beginnings.ensures c.beginnings.type_inv;
    }) c.args.number (subst (λ (h : Holdings K). saved.restored c.args.number h.picker
    (saving.saved_bytes c.args.number h) ≡ Ok h)
    c.controller.ensures (subst (λ b. saved.restored c.args.number c.controller.result.now.picker b
    ≡ Ok c.controller.result.now) c.save.ensures.bytes c.save.ensures.back))
