-- What a message keeps: every list of cookies is as long as the list beside it.
use Rattle.mscp_controller.specs.declared.entry.Sent.TheVariants as sents
use Rattle.mscp_tracked.proofs.Common.{Bool, true, false, List, [], ◌∷◌, ◌++◌, length, ℕ, ◌+◌, ◌<◌, ◌≤◌, ◌≡◌, ◌∙◌, refl, sym, ap, subst, arith, append-nil, Option, Some, None, Result, Ok, Err, IfSome, if◌then◌else◌, find, get_or, is_ok, is_some, unwrap_or, option_map, option_to_list, remove, position, true≢false, false≢true, length-append, length-remove, position-Some, Command, Order, IsCommand, command_of, IsValid, Connection, Both, of, put, aborts_none, find_cases, find_first, position_first, position_none, get_or_at, End, Record, aborted_record, has_name, name_on, no_record, record_at, without, Sent, SendFault, Holdings, IsBalanced, after_message, answer_to_message, answered_end, aborting, arrives, balance_of, held_unless, is_queued, outstanding_of, queued, reference_aborted, refusal, sent_unless, taken_as, unaborted, with_end, sides_length, Cookies, CanCome, ended, left, sent, AreBeside, IsTracked, number_aborted, place_aborted}

-- ---- how much there is
-- commands that wait and ends that weren't taken are 64 at the most
pub few : {K : Type 0} {h : Holdings K} → IsValid h.settings → IsBalanced h
    → length h.waiting + (length h.untaken.first + length h.untaken.second) ≤ 64
few {K} {h} v b =
    omega (arith, v.few_credits, b.first, b.second, sides_length (λ (r : Record). r.connection) h.waiting)

abbrev ok_or : {X E : Type 0} → X → Result X E → X
ok_or x (Ok y) = y
ok_or x (Err e) = x

ok_is : {X E : Type 0} (r : Result X E) (x y : X) → r ≡ Ok x → r ≡ Ok y → x ≡ y
ok_is r x y e f = ap (ok_or x) (sym e ∙ f)

pub some_is : {X : Type 0} (x y : X) → Some x ≡ Some y → x ≡ y
some_is x y e = ap (λ o. unwrap_or o x) e

-- what stands at the place of the first that passes is found
pub found_at : {X : Type 0} (p : X → Bool) (xs : List X) (k : ℕ) (d : X) → position p xs ≡ Some k
    → find p xs ≡ Some (get_or xs k d)
found_at p xs k d h =
    grind (arith, true≢false, position_none, some_is, position_first, find_first, get_or_at, find_cases)

-- ---- a message
-- one that isn't refused is a command
pub is_command : (balance : ℕ) (outstanding b : List ℕ) → refusal balance outstanding b ≡ None
    → IsCommand b (command_of b)
unfolding command_of
is_command balance outstanding b h = grind arith

pub unaborted_is : (via : Connection) (rs : List Record) (order : Order) (n : ℕ) → number_aborted order ≡ Some n
    → without (name_on via n) rs ≡ unaborted via rs order
unaborted_is via rs order n e = grind (arith, some_is, false≢true)

beside_ended : {K : Type 0} (h : Holdings K) (k : Cookies) (via : Connection) (end : End) (cookie : ℕ)
    → AreBeside h k → AreBeside (with_end via h end) (ended via cookie k)
beside_ended h k o end cookie b = grind (arith, length-append)

-- one command left those that wait, for its end
pub more : {X Y : Type 0} (xs : List X) (ys : List Y) (x : X) (y : Y) → length xs ≡ length ys
    → length (xs ++ x ∷ []) ≡ length (ys ++ y ∷ [])
more xs ys x y e = omega (arith, e, length-append xs (x ∷ []), length-append ys (y ∷ []))

beside_left : {K : Type 0} (h new : Holdings K) (k : Cookies) (via : Connection) (place : ℕ) (end : End)
    → place < length h.waiting → new.waiting ≡ remove h.waiting place
    → new.untaken ≡ put via (of via h.untaken ++ end ∷ []) h.untaken → AreBeside h k
    → AreBeside new (left via (Some place) k)
beside_left h new k o place end l w u b = grind (arith, length-remove, more)

-- nothing goes to a connection
pub none_more : {X : Type 0} (via : Connection) (both : Both (List X)) → put via (of via both ++ []) both ≡ both
none_more o both = grind (arith, append-nil)

module _ {K : Type 0} (h : Holdings K) (k : Cookies) (via : Connection) where
  same_beside : (new : Holdings K) → new.waiting ≡ h.waiting → new.untaken ≡ h.untaken → AreBeside h k → AreBeside new k
  same_beside new w u b = grind arith

  abort_beside : (other : ℕ) (place : Option ℕ) → place ≡ position (has_name (name_on via other)) h.waiting
      → IfSome place (λ p. remove h.waiting p ≡ without (name_on via other) h.waiting) → AreBeside h k
      → AreBeside (aborting via h (Order.Abort other)) (left via place k)
  abort_beside other None e r b =
      let none = aborts_none (name_on via other) h.waiting (sym e) in
      grind (arith, same_beside, none_more, none)
  abort_beside other (Some place) e r b =
      let gone = name_on via other in
      let found = found_at (has_name gone) h.waiting place no_record (sym e) in
      beside_left h (aborting via h (Order.Abort other)) k via place (aborted_record (record_at h.waiting place))
      (position-Some (has_name gone) h.waiting place no_record (sym e)).0 (sym r)
      (ap (λ o. put via (of via h.untaken ++ option_to_list (option_map aborted_record o)) h.untaken) found) b

  order_beside : (order : Order) (place : Option ℕ) → place ≡ place_aborted via h.waiting order
      → IfSome place (λ p. remove h.waiting p ≡ unaborted via h.waiting order) → AreBeside h k
      → AreBeside (aborting via h order) (left via place k)
  order_beside (Order.Abort other) place e r b = abort_beside other place e r b
  order_beside order None e r b = same_beside (aborting via h order) refl (none_more via h.untaken) b
  order_beside order (Some place) e r b = absurd (true≢false (ap is_some e))

  module _ (command : Command) (place : Option ℕ) (cookie : ℕ)
      (e : place ≡ place_aborted via h.waiting command.order)
      (r : IfSome place (λ p. remove h.waiting p ≡ unaborted via h.waiting command.order)) (b : AreBeside h k) where
    arrived_beside : (q : Bool) → AreBeside
        (if q then queued via h command else with_end via (aborting via h command.order) (answered_end via h command))
        (sent via (if q then sents.Queued command.reference
        else sents.Answered command.reference (reference_aborted via h.waiting command.order)) place cookie k)
    arrived_beside true = grind (arith, more)
    arrived_beside false = beside_ended (aborting via h command.order) (left via place k) via
        (answered_end via h command) cookie (order_beside command.order place e r b)

    unless_beside : (fault : Option SendFault) (became : Sent) → sent_unless via h command fault ≡ Ok became
        → AreBeside (held_unless via h command fault) (sent via became place cookie k)
    unless_beside (Some fault) became s = absurd (false≢true (ap is_ok s))
    unless_beside None became s =
        subst (λ z. AreBeside (arrives via h command) (sent via z place cookie k))
        (ok_is (sent_unless via h command None) (taken_as via h command) became refl s)
        (arrived_beside (is_queued h.settings command))

-- ---- what a message becomes
module _ {K : Type 0} (h : Holdings K) (k : Cookies) (via : Connection) (b : List ℕ) where
  abbrev Fault : Option SendFault
  Fault = refusal (balance_of via h) (outstanding_of via h) b

  free : (fault : Option SendFault) (became : Sent) → fault ≡ Fault
      → sent_unless via h (command_of b) fault ≡ Ok became → Fault ≡ None
  free o became e s = grind (arith, false≢true)

  -- a message that became something is a command
  pub was_command : (became : Sent) → answer_to_message via h b ≡ Ok became → IsCommand b (command_of b)
  was_command became s = is_command (balance_of via h) (outstanding_of via h) b (free Fault became refl s)

  pub message_beside : (became : Sent) (place : Option ℕ) (cookie : ℕ) → answer_to_message via h b ≡ Ok became
      → place ≡ place_aborted via h.waiting (command_of b).order
      → IfSome place (λ p. remove h.waiting p ≡ unaborted via h.waiting (command_of b).order) → AreBeside h k
      → AreBeside (after_message via h b) (sent via became place cookie k)
  message_beside became place cookie s e r beside =
      unless_beside h k via (command_of b) place cookie e r beside Fault became s

  pub message_settings : (after_message via h b).settings ≡ h.settings
  message_settings = grind arith

place_inside : (via : Connection) (rs : List Record) (order : Order) (place : Option ℕ)
    → place ≡ place_aborted via rs order → IfSome place (λ p. p < length rs)
place_inside via rs order o e = grind (arith, position-Some, true≢false)

-- what a message becomes has room
came : (via : Connection) (became : Sent) (place : Option ℕ) (cookie : ℕ) (k : Cookies)
    → IfSome place (λ p. p < length k.waiting)
    → length (sent via became place cookie k).waiting + (length (sent via became place cookie k).untaken.first
    + length (sent via became place cookie k).untaken.second) ≤ 64
    → CanCome via became place k
came via o place cookie k l f = grind (arith, length-append)

-- what a message keeps
pub record Comes {K : Type 0} (new : Holdings K) (via : Connection) (became : Sent) (place : Option ℕ)
    (cookie : ℕ) (k : Cookies) : Type 0 where
  pub tracked : IsTracked new (sent via became place cookie k)
  pub room : CanCome via became place k

pub message_comes : {K : Type 0} (h new : Holdings K) (k : Cookies) (via : Connection) (b : List ℕ) (became : Sent)
    (place : Option ℕ) (cookie : ℕ) → answer_to_message via h b ≡ Ok became → new ≡ after_message via h b
    → IsBalanced new → ((command : Command) → IsCommand b command → place ≡ place_aborted via h.waiting command.order)
    → ((command : Command) → IsCommand b command
    → IfSome place (λ p. remove h.waiting p ≡ unaborted via h.waiting command.order))
    → IsTracked h k → Comes new via became place cookie k
message_comes {K} h new k via b became place cookie s a balanced e r t =
    let is = was_command h k via b became s in
    let at = e (command_of b) is in
    let beside : AreBeside new (sent via became place cookie k) =
    subst (λ (z : Holdings K). AreBeside z (sent via became place cookie k)) (sym a)
    (message_beside h k via b became place cookie s at (r (command_of b) is) t.beside) in
    let valid : IsValid new.settings =
    subst IsValid (sym (ap (λ (z : Holdings K). z.settings) a ∙ message_settings h k via b)) t.valid in
    record {
      tracked = record { beside = beside; valid = valid; account = balanced };
      room = came via became place cookie k
          (subst (λ n. IfSome place (λ p. p < n)) (sym t.beside.waiting)
          (place_inside via h.waiting (command_of b).order place at))
          (omega (arith, few valid balanced, beside.waiting, beside.first, beside.second));
    }
