-- Parts that were read into lists that were empty.
use Rattle.mscp_saved.proofs.Common.{◌≡◌, ℕ, ◌+◌, ◌≤◌, List, [], ◌++◌, take, drop, length, length-append, take_rest, refl, ap, sym, ◌∙◌, arith, true, Option, End, Drive, Record, Settings, Shape, units_of, RestoreFault, all_waiting_in, begun_in, drives_in, end_in, first_count, first_in, first_place, second_count, second_in, settings_in, is_framed, settings_fault}
use Rattle.std.specs.Prelude.{◌-◌}
use Rattle.std.proofs.Math.Seq.{drop-append_seam, take-append_seam}
use Rattle.mscp_saved.proofs.Framed.{framed_of}
use Rattle.mscp_saved.proofs.Outcomes.{IsRead}
use Rattle.mscp_saved.proofs.Parted.{parts_long}

-- ---- settings
module _ (b : List ℕ) {d d1 : List Drive} {us : List Shape} where
  pub told_is : d ≡ drives_in b → d1 ≡ d → us ≡ units_of d1
      → ◌≡◌ {A = Settings} (record (settings_in b []) { units = us }) (settings_in b (drives_in b))
  told_is ds one is =
      λ i. record (settings_in b []) { units = (is ∙ (ap units_of one ∙ ap units_of ds)) i }

  -- where they have no fault, neither have those that the head tells
  pub told_good : {o : Option RestoreFault} → d ≡ drives_in b → d1 ≡ d → us ≡ units_of d1
      → o ≡ settings_fault (record (settings_in b []) { units = us })
      → settings_fault (settings_in b (drives_in b)) ≡ o
  told_good ds one is fault = sym (fault ∙ ap settings_fault (told_is ds one is))

-- ---- ends of both connections, one behind the other
module _ (b : List ℕ) where
  first_long : length (first_in b) ≡ first_count b
  first_long = parts_long end_in 48 (first_count b) (drop (first_place b) b)

  -- those of the second have room behind those of the first
  pub ends_fit : {none es : List End} → is_framed b ≡ true → none ≡ [] → es ≡ none ++ first_in b
      → length es + second_count b ≤ 64
  ends_fit framed n is = search (arith, framed_of b framed, first_long)

  pub both_of : {none first es : List End} → none ≡ [] → first ≡ none ++ first_in b → es ≡ first ++ second_in b
      → es ≡ first_in b ++ second_in b
  both_of n f e = e ∙ (ap (λ es. es ++ second_in b) f ∙ ap (λ es. (es ++ first_in b) ++ second_in b) n)

  module _ {es seen : List End} {n : ℕ} (both : es ≡ first_in b ++ second_in b) (same : seen ≡ es)
      (count : n ≡ first_count b) where
    pub ends_many : n ≤ length seen
    ends_many = search (arith, length-append (first_in b) (second_in b), first_long)

    pub ends_first : take n seen ≡ first_in b
    ends_first = (λ i. take ((count ∙ sym first_long) i) ((same ∙ both) i))
        ∙ take-append_seam (first_in b) (second_in b)

    pub ends_second : take (length seen - n) (drop n seen) ≡ second_in b
    ends_second = take_rest seen n
        ∙ ((λ i. drop ((count ∙ sym first_long) i) ((same ∙ both) i)) ∙ drop-append_seam (first_in b) (second_in b))

-- ---- all
pub read_is : (b : List ℕ) {c : Settings} {d d1 d2 : List Drive} {us : List Shape} {w w2 : List Record}
    {first second : List End} → d ≡ drives_in b → d1 ≡ d → us ≡ units_of d1
    → c ≡ record (settings_in b []) { units = us } → d2 ≡ d → w ≡ all_waiting_in b → w2 ≡ w → first ≡ first_in b
    → second ≡ second_in b → IsRead b c d2 w2 first second (begun_in b)
read_is b ds one is made two ws w f s = record {
  settings = made ∙ (told_is b ds one is ∙ ap (settings_in b) (sym (two ∙ ds)));
  drives = two ∙ ds;
  waiting = w ∙ ws;
  first_ends = f;
  second_ends = s;
  named = refl;
}
