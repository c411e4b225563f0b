-- What a host keeps, as the list so far says it, after a moment in which an end is heard.
use Rattle.mscp_host.proofs.Common.{◌≡◌, ℕ, ◌+◌, ◌<◌, Bool, true, false, map, ⊎_elim, refl, ap, sym, ◌∙◌, arith, append-nil, ◌&&◌, filter, find, nat_eq, not, if◌then◌else◌, Option, Some, None, is_some, option_map, and-false, and-true, cases_lt, eqb-true, eq-eqb, false_from_ne_true, false≢true, true≢false, End, Watch, Account, answered, has_reference, is_about_polled, outstanding_with, news_of_figure, news_with, received, status_end, told_of_submission, watch_after, with_told, are_apart, History, Moment, account_at, asked_for, asks_about, end_heard, figure_from, figure_in, found_stands, handed_over, in_flight, is_end_of, is_it, is_outstanding, is_poll, is_sent, last_found, last_told, moment, news_at, outstanding, reference, reference_found, submission_at, told_at, watch_at}
use Rattle.mscp_host.specs.Accounts.{told_in}
use Rattle.mscp_host.specs.declared.news.News.TheVariants as news
use Rattle.mscp_host.specs.Accounts as host
use Rattle.mscp_host.proofs.Apart.{apart_told}
use Rattle.mscp_host.proofs.Collected.{AtMostOne, each_out, ends_now, found_before, found_out, last_then, out_all, out_below, out_new, outstanding_more, was_out}
use Rattle.mscp_host.proofs.Kept.{ends_found, stands_then}
use Rattle.mscp_host.proofs.Lists.{every_weaker, filter_map_of, find_filter, find_map, find_none, find_on, map_map, map_on, none_found}
use Rattle.mscp_host.proofs.Single.{told_each, told_now, without_kept}

-- what is true of what a list says that a host keeps: no two outstanding commands have one number, and no two are polls
pub record IsApart (credits : ℕ) (h : History) (j : ℕ) : Type 0 where
  pub submissions : are_apart (account_at credits h j).outstanding ≡ true
  pub names : AtMostOne (λ x y. reference h x ≡ reference h y) h j
  pub polls : AtMostOne (λ x y. (is_poll (moment h x) ≡ true) × (is_poll (moment h y) ≡ true)) h j

-- the end e of the command p is heard at j
pub record Hears (credits : ℕ) (h : History) (j : ℕ) (e : End) (p : ℕ) : Type 0 where
  pub apart : IsApart credits h j
  pub silent : is_sent (moment h j) ≡ false
  pub heard : end_heard (moment h j) ≡ Some e
  pub handed : handed_over h j ≡ Some p
  pub about : is_about_polled (account_at credits h j).watch (answered (account_at credits h j).watch e) ≡ true

-- an outstanding poll is the one in flight
flies_of : (credits : ℕ) (h : History) (j x : ℕ) (o : Option ℕ) → IsApart credits h j → in_flight h j ≡ o
    → is_outstanding h j x ≡ true → is_poll (moment h x) ≡ true → o ≡ Some x
flies_of credits h j x None a q e f =
    absurd (false≢true (sym (each_out (λ y. is_poll (moment h y) ≡ false) h j x (none_found _ (outstanding h j) q) e)
    ∙ f))
flies_of credits h j x (Some p) a q e f = let own = found_out h j p _ q in ap Some (a.polls p x own.0 e (own.1, f))

pub flies : (credits : ℕ) (h : History) (j x : ℕ) → IsApart credits h j
    → is_outstanding h j x ≡ true → is_poll (moment h x) ≡ true → in_flight h j ≡ Some x
flies credits h j x a e f = flies_of credits h j x (in_flight h j) a refl e f

-- a poll that is in flight after j was so before, where none was sent at j
pub flight_back : (credits : ℕ) (h : History) (j p : ℕ) → IsApart credits h j → is_poll (moment h j) ≡ false
    → in_flight h (j + 1) ≡ Some p → in_flight h j ≡ Some p
flight_back credits h j p a n f =
    let own = found_out h (j + 1) p _ f in
    let l = out_below h (j + 1) p own.0 in
    ⊎_elim (λ less. flies credits h j p a (was_out h j p own.0 less) own.1)
    (λ more. let same : p ≡ j = omega (arith, l, more) in
    absurd (true≢false (sym own.1 ∙ (ap (λ x. is_poll (moment h x)) same ∙ n)))) (cases_lt p j)

poll_sent : (m : Moment) → is_poll m ≡ true → is_sent m ≡ true
poll_sent m e = grind (arith, false≢true)

-- and else it is that of j
pub flight_new : (credits : ℕ) (h : History) (j p : ℕ) → IsApart credits h (j + 1) → is_poll (moment h j) ≡ true
    → in_flight h (j + 1) ≡ Some p → p ≡ j
flight_new credits h j p a n f =
    let own = found_out h (j + 1) p _ f in
    a.polls p j own.0 (out_new h j ∙ poll_sent (moment h j) n) (own.1, n)

-- what it tells of the command that is polled, if it answers a poll
abbrev pub answer_in : History → End → ℕ → Option (ℕ × ℕ)
answer_in h e p = if is_poll (moment h p) then (if nat_eq e.code status_end then told_in e.body else None) else None

sub_then : (h : History) (j i : ℕ) → submission_at h (j + 1) i ≡ told_now (told_at h i j) (submission_at h j i)
sub_then h j i = grind (arith, last_then)

none_told : (h : History) (j : ℕ) → ((i : ℕ) → is_outstanding h j i ≡ true → told_at h i j ≡ None)
    → map (submission_at h j) (outstanding h j) ≡ map (submission_at h (j + 1)) (outstanding h j)
none_told h j f = map_on _ _ (outstanding h j)
    (out_all _ h j (λ i e. sym (sub_then h j i ∙ ap (λ o. told_now o (submission_at h j i)) (f i e))))

one_told : (credits : ℕ) (h : History) (j r figure : ℕ) → IsApart credits h j
    → ((i : ℕ) → is_outstanding h j i ≡ true → told_at h i j ≡ (if nat_eq (reference h i) r then Some figure else None))
    → with_told r figure (map (submission_at h j) (outstanding h j)) ≡ map (submission_at h (j + 1)) (outstanding h j)
one_told credits h j r figure a f =
    told_each r figure _ a.submissions ∙ (map_map (submission_at h j) _ (outstanding h j)
    ∙ map_on _ _ (outstanding h j) (out_all _ h j (λ i e.
    let after = sub_then h j i in
    let told = f i e in
    grind (arith, after, told))))

figure_of : (h : History) (e : End) (p i : ℕ) (told : ℕ × ℕ) → answer_in h e p ≡ Some told
    → (is_poll (moment h p) ≡ true) × (figure_in (Some e) ≡ Some told.1)
figure_of h e p i told q = grind (arith, false≢true)

-- of those that are outstanding the polled one alone has its number
same_name : (credits : ℕ) (h : History) (j i y n : ℕ) → IsApart credits h j → is_outstanding h j i ≡ true
    → is_outstanding h j y ≡ true → reference h i ≡ n → nat_eq i y ≡ nat_eq (reference h y) n
same_name credits h j i y n a ei ey r = search (arith, eq-eqb, eqb-true)

untold_of : (h : History) (e : End) (p i : ℕ) → answer_in h e p ≡ None
    → (if asks_about h i p then figure_in (Some e) else None) ≡ None
untold_of h e p i q = grind (arith, true≢false)

pub apart_with : (a : Account) (t : Option (ℕ × ℕ)) → are_apart (outstanding_with a t) ≡ are_apart a.outstanding
apart_with a t = search (arith, apart_told)

keeps_poll : (credits : ℕ) (h : History) (j q n y : ℕ) (b : Bool) → IsApart credits h j → in_flight h j ≡ Some q
    → nat_eq (reference h q) n ≡ b → is_outstanding h j y ≡ true → (d : Bool) → is_poll (moment h y) ≡ d
    → (not (nat_eq (reference h y) n) && d) ≡ (not b && d)
keeps_poll credits h j q n y b a f e o true d =
    let own = found_out h j q _ f in
    search (arith, nat_eq)
keeps_poll credits h j q n y b a f e o false d = and-false _ ∙ sym (and-false (not b))

watch_when : (f : ℕ → Watch) (q : ℕ) (w : Watch) (b d : Bool)
    → f q ≡ record w { is_outstanding = if d then false else w.is_outstanding }
    → option_map f (if b then None else Some q)
    ≡ (if b then None else (if d then Some (record w { is_outstanding = false }) else Some w))
watch_when f q w b d h1 = search arith

find_named : (credits : ℕ) (h : History) (j i n : ℕ) (o : Option ℕ) → IsApart credits h j → is_outstanding h j i ≡ true
    → reference h i ≡ n → find (λ y. nat_eq (reference h y) n) (outstanding h j) ≡ o → o ≡ Some i
find_named credits h j i n None a e r f = absurd (false≢true (sym (each_out
    (λ y. nat_eq (reference h y) n ≡ false) h j i (none_found _ (outstanding h j) f) e) ∙ eq-eqb _ _ r))
find_named credits h j i n (Some y) a e r f =
    let own = found_out h j y _ f in ap Some (a.names y i own.0 e (eqb-true _ _ own.1 ∙ sym r))

-- what was last told of the polled command
last_is : (credits : ℕ) (h : History) (j i n : ℕ) → IsApart credits h j → is_outstanding h j i ≡ true
    → reference h i ≡ n → host.last_told (account_at credits h j).outstanding n ≡ last_told h j i
last_is credits h j i n a e r =
    ap told_of_submission (find_map (submission_at h j) (has_reference n) (outstanding h j)
    ∙ ap (option_map (submission_at h j)) (find_named credits h j i n _ a e r refl))

-- ---- an end that is heard

module _ {credits : ℕ} {h : History} {j : ℕ} {e : End} {p : ℕ} (x : Hears credits h j e p) where
  -- ---- whose end it is

  pub own_out : is_outstanding h j p ≡ true
  own_out = (found_out h j p _ x.handed).0

  pub own_number : reference h p ≡ e.reference
  own_number =
      eqb-true (reference h p) e.reference
      (ap (λ o. is_end_of (reference h p) o) (sym x.heard) ∙ (found_out h j p _ x.handed).1)

  answered_of : (o : Option ℕ) → in_flight h j ≡ o → answered (option_map (watch_at h j) o) e ≡ answer_in h e p
  answered_of None q =
      let no : is_poll (moment h p) ≡ false = false_from_ne_true _
      (λ f. true≢false (ap is_some (sym (flies credits h j p x.apart own_out f) ∙ q))) in
      rw no refl
  answered_of (Some y) q =
      let own = found_out h j y _ q in
      let both : (b : Bool) → nat_eq (reference h y) e.reference ≡ b
      → (if b && nat_eq e.code status_end then told_in e.body else None) ≡ answer_in h e p =
      λ b. elim b as (λ b. nat_eq (reference h y) e.reference ≡ b
      → (if b && nat_eq e.code status_end then told_in e.body else None) ≡ answer_in h e p) [
        | true ↦ λ n. grind (arith, own_out, eqb-true, own_number, own)
        | false ↦ λ n. grind (arith, false_from_ne_true, own_out, true≢false, eq-eqb, own_number, own)
      ] in
      both (nat_eq (reference h y) e.reference) refl

  pub answered_is : answered (account_at credits h j).watch e ≡ answer_in h e p
  answered_is = answered_of (in_flight h j) refl

  told_is : (i : ℕ) → told_at h i j ≡ (if asks_about h i p then figure_in (Some e) else None)
  told_is i = ap (figure_from h i j) x.handed ∙ ap (λ o. if asks_about h i p then figure_in o else None) x.heard

  -- whether the polled command is still outstanding, and which number an answer has then
  watched : is_poll (moment h p) ≡ true → (account_at credits h j).watch ≡ Some (watch_at h j p)
  watched f = ap (option_map (watch_at h j)) (flies credits h j p x.apart own_out f)

  -- the number of an answer is that of the polled command
  named : (told : ℕ × ℕ) → answer_in h e p ≡ Some told → reference_found h (asked_for h p) ≡ told.0
  named told q = search (arith, figure_of, watched, answered_is, eqb-true)

  -- what is told, of the command that was found
  told_of : (told : ℕ × ℕ)
      → answer_in h e p ≡ Some told → (o : Option ℕ) → asked_for h p ≡ o → (b : Bool) → found_stands h j o ≡ b
      → (if b then with_told told.0 told.1 (account_at credits h j).outstanding else
      (account_at credits h j).outstanding)
      ≡ map (submission_at h (j + 1)) (outstanding h j)
  told_of told q None r true s = absurd (false≢true s)
  told_of told q (Some i) r true s =
      let f = figure_of h e p i told q in
      let n : reference h i ≡ told.0 = ap (reference_found h) (sym r) ∙ named told q in
      one_told credits h j told.0 told.1 x.apart (λ y out. told_is y
      ∙ ((λ k. if f.0 k && is_it y (r k) then f.1 k else None)
      ∙ ap (λ b. if b then Some told.1 else None) (same_name credits h j i y told.0 x.apart s out n)))
  told_of told q o r false s = grind (arith, none_told, and-false, told_is, eqb-true, true≢false)

  told_when : (t : Option (ℕ × ℕ)) → answer_in h e p ≡ t → outstanding_with (account_at credits h j) t
      ≡ map (submission_at h (j + 1)) (outstanding h j)
  told_when None q = none_told h j (λ i out. told_is i ∙ untold_of h e p i q)
  told_when (Some told) q = search (arith, watched, figure_of, told_of)

  -- ---- what is left

  -- an end that is heard now is that of its number
  ends_is : (i : ℕ) → ends_now h j i ≡ nat_eq (reference h i) e.reference
  ends_is i = ap (is_end_of (reference h i)) x.heard

  outs_after : outstanding h (j + 1) ≡ filter (λ i. not (nat_eq (reference h i) e.reference)) (outstanding h j)
  outs_after = search (arith, outstanding_more, ends_is, append-nil)

  flight_after : in_flight h (j + 1)
      ≡ find (λ i. not (nat_eq (reference h i) e.reference) && is_poll (moment h i)) (outstanding h j)
  flight_after = ap (find (λ i. is_poll (moment h i))) outs_after ∙ find_filter _ _ (outstanding h j)

  flight_if : (q : ℕ) → in_flight h j ≡ Some q → (b : Bool) → nat_eq (reference h q) e.reference ≡ b
      → in_flight h (j + 1) ≡ (if b then None else Some q)
  flight_if q f true n = flight_after ∙ find_none _ (outstanding h j)
      (out_all _ h j (λ y o. keeps_poll credits h j q e.reference y true x.apart f n o _ refl))
  flight_if q f false n = flight_after ∙ (find_on _ (λ i. is_poll (moment h i)) (outstanding h j)
      (out_all _ h j (λ y o. keeps_poll credits h j q e.reference y false x.apart f n o _ refl)) ∙ f)

  stands_if : (o : Option ℕ) → (found_stands h j o && not (ends_found h j o))
      ≡ (if nat_eq (reference_found h o) e.reference then false else found_stands h j o)
  stands_if o = search (arith, ends_is, and-false, and-true)

  watch_left : (o : Option ℕ) → in_flight h j ≡ o → option_map (watch_at h (j + 1)) (in_flight h (j + 1))
      ≡ watch_after (option_map (watch_at h j) o) e.reference
  watch_left None f = grind (arith, flight_after, find_none, every_weaker, and-false, none_found)
  watch_left (Some q) f =
      let l : q < j = found_before h j q _ f in
      let after = flight_if q f (nat_eq (reference h q) e.reference) refl in
      let stands = stands_then h j q (omega (arith, l)) ∙ stands_if (asked_for h q) in
      ap (option_map (watch_at h (j + 1))) after
      ∙ watch_when (watch_at h (j + 1)) q (watch_at h j q) _ (nat_eq (reference_found h (asked_for h q)) e.reference)
      (λ k. record (watch_at h j q) { is_outstanding = stands k })

  pub account_received : account_at credits h (j + 1) ≡ received (account_at credits h j) e
  account_received =
      grind (arith, apart_with, without_kept, filter_map_of, outs_after, watch_left, answered_is, told_when)

  says_told : (told : ℕ × ℕ)
      → answer_in h e p ≡ Some told → (o : Option ℕ) → asked_for h p ≡ o → (b : Bool) → found_stands h j o ≡ b
      → (if b then news_of_figure (host.last_told (account_at credits h j).outstanding told.0) told.1 else news.Late)
      ≡ (if b then news_of_figure (last_found h j o) told.1 else news.Late)
  says_told told q (Some i) r true s =
      ap (λ o. news_of_figure o told.1)
      (last_is credits h j i told.0 x.apart s (ap (reference_found h) (sym r) ∙ named told q))
  says_told told q o r w s = grind (arith, false≢true)

  says_when : (t : Option (ℕ × ℕ)) → answer_in h e p ≡ t → news_with (account_at credits h j) e t ≡ news_at h j e p
  says_when t h1 = search (arith, watched, figure_of, says_told)

  -- what the host says is what the history says
  pub says_is : news_with (account_at credits h j) e (answered (account_at credits h j).watch e) ≡ news_at h j e p
  says_is = ap (news_with (account_at credits h j) e) answered_is ∙ says_when (answer_in h e p) refl
