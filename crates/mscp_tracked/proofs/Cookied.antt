-- The cookies that are told are those that were sent.
use Rattle.mscp_controller.specs.declared.entry.Sent.TheVariants as sents
use Rattle.mscp_tracked.proofs.Common.{Bool, true, false, List, [], ◌∷◌, ◌++◌, length, ℕ, ◌+◌, ◌<◌, ◌≡◌, ◌≢◌, ◌∙◌, refl, sym, ap, subst, arith, append-nil, suc, Option, Some, None, if◌then◌else◌, get_or, is_some, option_map, option_to_list, list_any, map, take, drop, remove, position, true≢false, false≢true, position-Some, cut_at, drop-map, get_or-map, map-append, take-map, name_found, AreApart, names, Command, Order, command_of, Block, Connection, First, Second, of, put, End, Record, aborted_record, drive_at, end_given, has_name, is_same, name_of, name_on, no_record, passed_by, record_at, remains, same_is, same_name, waiting_after, Name, Report, Idle, Served, Choice, Drive, Holdings, Steps, ends_after, Both, end_in, HasCookie, Cookies, cookie_in, ended, left, reported, sent, holds, holds_either, none_waits, refusal, outstanding_of, aborts_none, with_end, aborting, answered_end, queued, reference_aborted, place_aborted, nat_eq, eqb-false, differ_is, is_differ, or_parts, place_served}
use Rattle.mscp_queue.proofs.Aborts.{aborts_at}
use Rattle.mscp_tracked.proofs.Keeping.{found_at, none_more}

-- ---- what belongs to whom
-- the cookies of records, and of ends of a connection
abbrev pub own : (Name → ℕ) → List Record → List ℕ
own f rs = map (λ r. f (name_of r)) rs

abbrev pub own_ends : (Name → ℕ) → Connection → List End → List ℕ
own_ends f via es = map (λ e. f (name_on via e.reference)) es

-- each cookie is that of its command's name
pub record AreOwn {K : Type 0} (f : Name → ℕ) (h : Holdings K) (k : Cookies) : Type 0 where
  pub waiting : k.waiting ≡ own f h.waiting
  pub first : k.untaken.first ≡ own_ends f First h.untaken.first
  pub second : k.untaken.second ≡ own_ends f Second h.untaken.second

map_remove : {X Y : Type 0} (g : X → Y) (xs : List X) (k : ℕ) → map g (remove xs k) ≡ remove (map g xs) k
map_remove g xs k = grind (arith, map-append, take-map, drop-map)

pub own_at : (f : Name → ℕ) (rs : List Record) (k : ℕ) → k < length rs
    → get_or (own f rs) k 0 ≡ f (name_of (record_at rs k))
own_at f rs k l = get_or-map (λ r. f (name_of r)) rs k no_record 0 l

-- ---- a step
passed_own : (f : Name → ℕ) (n : ℕ) (rs : List Record) → own f (map (passed_by n) rs) ≡ own f rs
passed_own f n [] = refl
passed_own f n (r ∷ rs) = ap (λ xs. f (name_of r) ∷ xs) (passed_own f n rs)

end_number : (k : Block) (d : Drive) (r : Record) (e : End) → end_given k d r ≡ Some e
    → e.reference ≡ r.command.reference
end_number k d r e h = grind (arith, false≢true)

-- the others keep their names
names_after : (f : Name → ℕ) (k : Block) (d : Drive) (rs : List Record) (q : ℕ) (end : Option End) → q < length rs
    → end_given k d (record_at rs q) ≡ end
    → own f (waiting_after k d rs q) ≡ own f (take q rs) ++ (own f (remains (record_at rs q) end)
    ++ own f (drop (q + 1) rs))
names_after f k d rs q end l e = grind (arith, map-append, passed_own)

waiting_stays : (f : Name → ℕ) (k : Block) (d : Drive) (rs : List Record) (q : ℕ) → q < length rs
    → end_given k d (record_at rs q) ≡ None → own f (waiting_after k d rs q) ≡ own f rs
waiting_stays f k d rs q l e =
    names_after f k d rs q None l e
    ∙ (sym (map-append (λ z. f (name_of z)) (take q rs) (record_at rs q ∷ drop (q + 1) rs))
    ∙ ap (own f) (sym (cut_at no_record rs q l)))

waiting_less : (f : Name → ℕ) (k : Block) (d : Drive) (rs : List Record) (q : ℕ) (end : End) → q < length rs
    → end_given k d (record_at rs q) ≡ Some end → own f (waiting_after k d rs q) ≡ remove (own f rs) q
waiting_less f k d rs q end l e =
    let next : q + 1 ≡ suc q = omega arith in
    names_after f k d rs q (Some end) l e
    ∙ (ap (λ m. own f (take q rs) ++ own f (drop m rs)) next
    ∙ (sym (map-append (λ z. f (name_of z)) (take q rs) (drop (suc q) rs))
    ∙ map_remove (λ z. f (name_of z)) rs q))

-- where a report's command stands
reported_at : (rs : List Record) (q : ℕ) (via : Connection) (reference : ℕ) → AreApart (names rs) → q < length rs
    → name_on via reference ≡ name_of (record_at rs q) → position (has_name (name_on via reference)) rs ≡ Some q
reported_at rs q via reference a l e = grind (arith, name_found)

abbrev name_reported : Name → Report → Name
name_reported name Idle = name
name_reported name (Served via reference unit lbn started seek ended) = name_on via reference

-- lists that stay
same_lists : {K : Type 0} (f : Name → ℕ) (h new : Holdings K) (k c : Cookies) → own f new.waiting ≡ own f h.waiting
    → new.untaken ≡ h.untaken → c ≡ k → AreOwn f h k → AreOwn f new c
same_lists f h new k c w u e o = grind arith

-- an end more
end_more : (f : Name → ℕ) (via : Connection) (ks : List ℕ) (es : List End) (cookie : ℕ) (e : End)
    → ks ≡ own_ends f via es → cookie ≡ f (name_on via e.reference)
    → ks ++ cookie ∷ [] ≡ own_ends f via (es ++ e ∷ [])
end_more f via ks es cookie e a b = grind (arith, map-append)

-- one left those that wait, for its end
own_left : {K : Type 0} (f : Name → ℕ) (h new : Holdings K) (k : Cookies) (via : Connection) (q : ℕ) (e : End)
    → q < length h.waiting → own f new.waiting ≡ remove (own f h.waiting) q
    → new.untaken ≡ put via (of via h.untaken ++ e ∷ []) h.untaken
    → name_on via e.reference ≡ name_of (record_at h.waiting q) → AreOwn f h k
    → AreOwn f new (left via (Some q) k)
own_left f h new k y q e l w u n o = grind (arith, own_at, end_more)

none_ends : (z : Both (List End)) → record { first = z.first ++ []; second = z.second ++ [] } ≡ z
none_ends z = λ i. record { first = append-nil z.first i; second = append-nil z.second i }

ends_none : (via : Connection) (z : Both (List End)) (reference unit : ℕ) (lbn : Option ℕ) (started : Bool) (seek : ℕ)
    → ends_after z (Served via reference unit lbn started seek None) ≡ z
ends_none o z reference unit lbn started seek = grind (arith, none_ends)

ends_one : (via : Connection) (z : Both (List End)) (reference unit : ℕ) (lbn : Option ℕ) (started : Bool) (seek : ℕ)
    (e : End) → ends_after z (Served via reference unit lbn started seek (Some e)) ≡ put via (of via z ++ e ∷ []) z
ends_one o z reference unit lbn started seek e = grind (arith, append-nil)

-- what a step tells, and what it leaves
module _ {K : Type 0} (f : Name → ℕ) (picks : List Choice → ℕ → Type 0) (k : Block) (h new : Holdings K)
    (c d : Cookies) (o : AreOwn f h c) (apart : AreApart (names h.waiting)) where
  pub step_owns : (report : Report) (cookie : ℕ) → Steps picks k h report new
      → cookie ≡ cookie_in c.waiting (place_served h.waiting report)
      → d ≡ reported (place_served h.waiting report) report c → HasCookie f report cookie × AreOwn f new d
  step_owns Idle cookie s e g = grind (arith, same_lists, none_ends)
  step_owns (Served via reference unit lbn started seek ended) cookie s e g =
      let q = s.serves.0 in
      let a = s.serves.1 in
      let r = record_at h.waiting q in
      let l = a.next.servable.inside in
      let name : name_on via reference ≡ name_of r = ap (name_reported (name_of r)) a.told in
      let at = reported_at h.waiting q via reference apart l name in
      let is : ended ≡ end_given k (drive_at h.drives h.waiting q) r = ap end_in a.told in (
        e ∙ (ap (cookie_in c.waiting) at ∙ (ap (λ ws. get_or ws q 0) o.waiting
            ∙ (own_at f h.waiting q l ∙ ap f (sym name)))),
        after ended q l (ap (λ z. z.waiting) a.left) name is s.ends
            (g ∙ ap (λ p. reported p (Served via reference unit lbn started seek ended) c) at),
      )
    where
      after : (end : Option End) (q : ℕ) → q < length h.waiting
          → new.waiting ≡ waiting_after k (drive_at h.drives h.waiting q) h.waiting q
          → name_on via reference ≡ name_of (record_at h.waiting q)
          → end ≡ end_given k (drive_at h.drives h.waiting q) (record_at h.waiting q)
          → new.untaken ≡ ends_after h.untaken (Served via reference unit lbn started seek end)
          → d ≡ reported (Some q) (Served via reference unit lbn started seek end) c → AreOwn f new d
      after None q l w name is u g = same_lists f h new c d
          (ap (own f) w ∙ waiting_stays f k (drive_at h.drives h.waiting q) h.waiting q l (sym is))
          (u ∙ ends_none via h.untaken reference unit lbn started seek) g o
      after (Some end) q l w name is u g = subst (AreOwn f new) (sym g) (own_left f h new c via q end l
          (ap (own f) w ∙ waiting_less f k (drive_at h.drives h.waiting q) h.waiting q end l (sym is))
          (u ∙ ends_one via h.untaken reference unit lbn started seek end)
          (ap (name_on via) (end_number k (drive_at h.drives h.waiting q) (record_at h.waiting q) end (sym is))
          ∙ (sym (ap (λ n. name_on via n.reference) name) ∙ name)) o)

-- ---- a message
-- once a cookie was sent with this name
abbrev pub sent_with : (Name → ℕ) → Name → ℕ → Name → ℕ
sent_with f n cookie name = if same_name n name then cookie else f name

pub own_sent : (f : Name → ℕ) (n : Name) (cookie : ℕ) → sent_with f n cookie n ≡ cookie
own_sent f n cookie = ap (λ b. if b then cookie else f n) (is_same n n refl)

other_sent : (f : Name → ℕ) (n name : Name) (cookie : ℕ) → same_name n name ≡ false
    → sent_with f n cookie name ≡ f name
other_sent f n name cookie e = ap (λ b. if b then cookie else f name) e

turned : (a b : Name) → same_name a b ≡ false → same_name b a ≡ false
turned a b e = is_differ b a (λ same. differ_is a b e (sym same))

-- the others keep theirs
own_still : (f : Name → ℕ) (n : Name) (cookie : ℕ) (rs : List Record) → list_any (has_name n) rs ≡ false
    → own (sent_with f n cookie) rs ≡ own f rs
own_still f n cookie [] h = refl
own_still f n cookie (r ∷ rs) h =
    let p = or_parts (has_name n r) (list_any (has_name n) rs) h in
    ap (λ x. x ∷ own (sent_with f n cookie) rs) (other_sent f n (name_of r) cookie (turned (name_of r) n p.0))
    ∙ ap (λ xs. f (name_of r) ∷ xs) (own_still f n cookie rs p.1)

same_ends : (f : Name → ℕ) (via : Connection) (reference cookie : ℕ) (es : List End)
    → list_any (λ e. nat_eq e.reference reference) es ≡ false
    → own_ends (sent_with f (name_on via reference) cookie) via es ≡ own_ends f via es
same_ends f via reference cookie [] h = refl
same_ends f via reference cookie (e ∷ es) h =
    let p = or_parts (nat_eq e.reference reference) (list_any (λ e. nat_eq e.reference reference) es) h in
    let n = name_on via reference in
    ap (λ x. x ∷ own_ends (sent_with f n cookie) via es) (other_sent f n (name_on via e.reference) cookie
    (is_differ n (name_on via e.reference) (λ same.
    eqb-false e.reference reference p.0 (sym (ap (λ (m : Name). m.reference) same)))))
    ∙ ap (λ xs. f (name_on via e.reference) ∷ xs) (same_ends f via reference cookie es p.1)

other_ends : (f : Name → ℕ) (via other : Connection) (reference cookie : ℕ) (es : List End) → via ≢ other
    → own_ends (sent_with f (name_on via reference) cookie) other es ≡ own_ends f other es
other_ends f via other reference cookie [] d = refl
other_ends f via other reference cookie (e ∷ es) d =
    grind (arith, other_ends f via other reference cookie es d, other_sent, is_differ)

-- a number that isn't outstanding
pub unheld : (balance : ℕ) (outstanding b : List ℕ) → refusal balance outstanding b ≡ None
    → holds outstanding (command_of b).reference ≡ false
unfolding command_of
unheld balance outstanding b h = grind arith

pub still_own : {K : Type 0} (f : Name → ℕ) (h : Holdings K) (k : Cookies) (via : Connection) (reference cookie : ℕ)
    → holds (outstanding_of via h) reference ≡ false → AreOwn f h k
    → AreOwn (sent_with f (name_on via reference) cookie) h k
still_own f h k w reference cookie free o =
    grind (arith, own_still, none_waits, same_ends, holds_either, other_ends, false≢true, or_parts)

own_ended : {K : Type 0} (f : Name → ℕ) (h : Holdings K) (k : Cookies) (via : Connection) (e : End) (cookie : ℕ)
    → cookie ≡ f (name_on via e.reference) → AreOwn f h k → AreOwn f (with_end via h e) (ended via cookie k)
own_ended f h k w e cookie c o = grind (arith, end_more)

module _ {K : Type 0} (f : Name → ℕ) (h : Holdings K) (k : Cookies) (via : Connection)
    (apart : AreApart (names h.waiting)) (o : AreOwn f h k) where
  abort_owns : (other : ℕ) (place : Option ℕ) → place ≡ position (has_name (name_on via other)) h.waiting
      → AreOwn f (aborting via h (Order.Abort other)) (left via place k)
  abort_owns other None e =
      let none = aborts_none (name_on via other) h.waiting (sym e) in
      grind (arith, same_lists, none_more, none)
  abort_owns other (Some place) e =
      let gone = name_on via other in
      let found = found_at (has_name gone) h.waiting place no_record (sym e) in
      let some = position-Some (has_name gone) h.waiting place no_record (sym e) in
      let name = same_is (name_of (record_at h.waiting place)) gone some.1 in
      own_left f h (aborting via h (Order.Abort other)) k via place (aborted_record (record_at h.waiting place)) some.0
      (ap (own f) (sym (aborts_at gone h.waiting place apart (sym e)).left)
      ∙ map_remove (λ z. f (name_of z)) h.waiting place)
      (ap (λ z. put via (of via h.untaken ++ option_to_list (option_map aborted_record z)) h.untaken) found)
      (ap (λ (n : Name). name_on via n.reference) name ∙ sym name) o

  order_owns : (order : Order) (place : Option ℕ) → place ≡ place_aborted via h.waiting order
      → AreOwn f (aborting via h order) (left via place k)
  order_owns (Order.Abort other) place e = abort_owns other place e
  order_owns order None e = same_lists f h (aborting via h order) k k refl (none_more via h.untaken) refl o
  order_owns order (Some place) e = absurd (true≢false (ap is_some e))

  end_of_own : (command : Command) → (answered_end via h command).reference ≡ command.reference
  end_of_own command = grind arith

  pub arrived_owns : (command : Command) (cookie : ℕ) (q : Bool) → cookie ≡ f (name_on via command.reference)
      → AreOwn f (if q then queued via h command else with_end via (aborting via h command.order)
      (answered_end via h command)) (sent via (if q then sents.Queued command.reference
      else sents.Answered command.reference (reference_aborted via h.waiting command.order))
      (place_aborted via h.waiting command.order) cookie k)
  arrived_owns command cookie true e = grind (arith, map-append)
  arrived_owns command cookie false e =
      own_ended f (aborting via h command.order) (left via (place_aborted via h.waiting command.order) k) via
      (answered_end via h command) cookie (e ∙ ap (λ n. f (name_on via n)) (sym (end_of_own command)))
      (order_owns command.order (place_aborted via h.waiting command.order) refl)
