-- Who keeps a command back, found one after the other.
use Rattle.mscp_queue.proofs.Basics.{◌≡◌, ℕ, zero, suc, ◌+◌, ◌≤◌, Bool, cond, not, ◌&&◌, ◌||◌, List, [], ◌∷◌, ◌++◌, take, length, refl, ap, sym, ◌∙◌, append-nil, subst, arith, nat_le, list_all, length-append, map-append, filter-append, list_all_more, Holder, Record, no_record, record_at, charge, is_open, holder_of, holders_among, is_nobody, range_more}
use Rattle.mscp_queue.specs.Views.{fences}
use Rattle.mscp_queue.specs.Why.{keeps_back}

-- what is known of those that were looked at: who of them keeps the record at the place back
pub record Holders (budget : ℕ) (rs : List Record) (place count : ℕ) (holders : List Holder) : Type 0 where
  pub told : holders ≡ holders_among budget rs place count
  pub few : length holders ≤ count

-- one more is looked at
among_more : (budget : ℕ) (rs : List Record) (place front : ℕ) → holders_among budget rs place (front + 1)
    ≡ holders_among budget rs place front ++ cond (keeps_back budget (record_at rs place) (record_at rs front))
    (holder_of budget (record_at rs place) (record_at rs front) ∷ []) []
among_more budget rs place front = search (arith, range_more front, filter-append, map-append)

appended : (holders : List Holder) (holder : Holder) (b : Bool)
    → length (holders ++ cond b (holder ∷ []) []) ≤ length holders + 1
appended holders holder b = grind (arith, length-append, append-nil)

pub holders_more : {budget : ℕ} {rs : List Record} {place front : ℕ} {holders holders' : List Holder} (b : Bool)
    (holder : Holder) → b ≡ keeps_back budget (record_at rs place) (record_at rs front) → holder
    ≡ holder_of budget (record_at rs place) (record_at rs front) → holders' ≡ holders ++ cond b (holder ∷ []) []
    → Holders budget rs place front holders → Holders budget rs place (front + 1) holders'
holders_more b holder is what put h = grind (arith, among_more, appended)

-- ---- nobody keeps back what may start
none_more : (holders : List Holder) (holder : Holder) (b : Bool)
    → is_nobody (holders ++ cond b (holder ∷ []) []) ≡ (is_nobody holders && not b)
none_more holders holder b = grind arith

-- free and affordable so far, and the next neither fences nor is overdrawn
parted : (free affordable fences affords : Bool) → ((free && affordable) && not (fences || not affords))
    ≡ ((free && not fences) && (affordable && affords))
parted free affordable fences affords = grind arith

-- nobody in front of so many keeps the record at the place back exactly if it may start behind these
pub none_keeps_back : (budget : ℕ) (rs : List Record) (place count : ℕ) → count ≤ length rs
    → is_nobody (holders_among budget rs place count) ≡ is_open budget (record_at rs place) (take count rs)
none_keeps_back budget rs place zero l = refl
none_keeps_back budget rs place (suc count) l =
    let r = record_at rs place in
    let z = record_at rs count in
    let free : Record → Bool = λ z. not (fences r z) in
    let affords : Record → Bool = λ z. nat_le (z.passed + charge r) budget in
    let front = take count rs in
    let e : count + 1 ≡ suc count = omega arith in
    subst (λ n. is_nobody (holders_among budget rs place n) ≡ is_open budget r (take n rs))
    e (ap is_nobody (among_more budget rs place count)
    ∙ (none_more (holders_among budget rs place count) (holder_of budget r z) (keeps_back budget r z)
    ∙ (ap (λ b. b && not (keeps_back budget r z)) (none_keeps_back budget rs place count (omega (arith, l)))
    ∙ (parted (list_all free front) (list_all affords front) (fences r z) (affords z) ∙ (ap (λ b. b &&
    (list_all affords front && affords z)) (sym (list_all_more free rs count no_record (omega (arith, l)))) ∙ ap (λ b.
    list_all free (take (count + 1) rs) && b) (sym (list_all_more affords rs count no_record (omega (arith, l)))))))))
