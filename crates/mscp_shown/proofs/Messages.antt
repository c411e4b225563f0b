-- A message that a controller takes keeps each rule of a host.
use Rattle.mscp_shown.proofs.Common.{Bool, Connection, Covers, End, IsTaken, IsValid, List, Option, Sent, Settings, Trace, ap, arith, balance, cond, count_by, count_on, credits_of, every_from, false, has_credit, has_one_of, holds, is_named, le-leb, length, limit_of, map, nat_eq, nat_lt, not, num, outstanding, reference, sent_by, subst, sum_by, sum_by-append, sum_by_map, sum_on, sym, true, untaken, waiting_by, ℕ, ◌&&◌, ◌+◌, ◌-◌, ◌||◌, ◌∙◌, ◌≡◌, ◌≤◌}
use Rattle.mscp_wire.specs.Wire.{is_immediate, same_connection}
use Rattle.mscp_shown.proofs.Counts.{all_pass, none_any, none_passes}
use Rattle.mscp_shown.proofs.Owed.{owed}
use Rattle.mscp_shown.proofs.Shown.{tally}
use Rattle.mscp_shown.proofs.Strict.{IsRightMessage}

-- the same commands are outstanding on the wire and in the trace, as far as their numbers tell
abbrev pub IsTallied : Settings → Connection → Trace → List Sent → Type 0
IsTallied c via t xs = (p : ℕ → Bool) → tally via p xs ≡ owed c via t p

module _ (c : Settings) (via : Connection) (t : Trace) where
  pub owed_is : (p : ℕ → Bool) → count_by p (outstanding c via t) ≡ owed c via t p
  unfolding outstanding
  owed_is p =
      let g : ℕ → ℕ = λ n. cond (p n) 1 0 in
      let numbers = map (reference t) (waiting_by via t) in
      let ended = map (λ (e : End). e.reference) (untaken c via t) in
      sum_by-append g numbers ended
      ∙ ap (λ n. n + sum_by g ended) (sum_by_map (reference t) g (waiting_by via t))
      ∙ ap (λ n. count_by (λ x. p (reference t x)) (waiting_by via t) + n)
      (sum_by_map (λ (e : End). e.reference) g (untaken c via t))

  pub new_number : (xs : List Sent) (n : ℕ) → IsTallied c via t xs → holds (outstanding c via t) n ≡ false
      → tally via (λ x. nat_eq x n) xs ≡ 0
  new_number xs n same h =
      same (λ x. nat_eq x n) ∙ sym (owed_is (λ x. nat_eq x n))
      ∙ none_passes (λ x. nat_eq x n) (outstanding c via t) h

  all_tallied : (xs : List Sent) → IsTallied c via t xs
      → count_on via xs ≡ length (waiting_by via t) + length (untaken c via t)
  all_tallied xs same =
      let each : (s : Sent) → (same_connection s.connection via && true) ≡ same_connection s.connection via =
      λ s. and_true (same_connection s.connection via) in
      sym (sum_on (λ (s : Sent). cond (same_connection s.connection via && true) 1 0)
      (λ (s : Sent). cond (same_connection s.connection via) 1 0) xs
      (every_from (λ (s : Sent). cond (same_connection s.connection via && true) 1 0
      ≡ cond (same_connection s.connection via) 1 0) (λ s. ap (λ b. cond b 1 0) (each s)) xs))
      ∙ same (λ x. true)
      ∙ (ap (λ n. n + count_by (λ (e : End). true) (untaken c via t)) (all_pass (waiting_by via t))
      ∙ ap (λ n. length (waiting_by via t) + n) (all_pass (untaken c via t)))
    where
      and_true : (b : Bool) → (b && true) ≡ b
      and_true b = grind arith

-- ---- credits
credit_of : (n all waits ended : ℕ) (immediate : Bool) → all ≤ n → (all - waits - ended ≡ 0 → ⊥)
    → (nat_eq (all - waits - ended) 1 && not immediate) ≡ false
    → (nat_lt (waits + ended + 1) n || (nat_eq (waits + ended + 1) n && immediate)) ≡ true
credit_of n all waits ended immediate few some last = grind arith

-- no connection has more credits than its host is told, or is taken to have
abbrev pub HasRoom : Option ℕ → Settings → Type 0
HasRoom credits c = (via : Connection) → credits_of c via ≤ limit_of credits

pub has_room : (credits : Option ℕ) (c : Settings) → IsValid c → Covers credits c → HasRoom credits c
has_room credits c valid covers = grind arith

one_kept : (n : ℕ) (c : Settings) (via : Connection) (t : Trace) (b : List ℕ) (xs : List Sent) → credits_of c via ≤ n
    → IsTaken (balance c via t) (outstanding c via t) b → IsTallied c via t xs
    → has_one_of n xs (sent_by via b) ≡ true
unfolding balance
one_kept n c via t b xs few taken same =
    let s = sent_by via b in
    subst (λ k. (nat_lt (k + 1) n || (nat_eq (k + 1) n && is_immediate s.opcode)) ≡ true)
    (sym (all_tallied c via t xs same))
    (credit_of n (credits_of c via) (length (waiting_by via t)) (length (untaken c via t)) (is_immediate s.opcode)
    few taken.free taken.last)

credit_kept : (credits : Option ℕ) (c : Settings) (via : Connection) (t : Trace) (b : List ℕ) (xs : List Sent)
    → HasRoom credits c → IsTaken (balance c via t) (outstanding c via t) b → IsTallied c via t xs
    → has_credit credits xs (sent_by via b) ≡ true
credit_kept credits c via t b xs room taken same = one_kept (limit_of credits) c via t b xs (room via) taken same

pub message_right : (credits : Option ℕ) (c : Settings) (via : Connection) (t : Trace) (b : List ℕ) (xs : List Sent)
    → HasRoom credits c → IsTaken (balance c via t) (outstanding c via t) b → IsTallied c via t xs
    → IsRightMessage credits xs b (sent_by via b)
message_right credits c via t b xs room taken same = record {
  message = le-leb 12 (length b) taken.low;
  number = ap not
      (none_any (is_named via (num b 0 4)) xs (new_number c via t xs (num b 0 4) same taken.new));
  credit = credit_kept credits c via t b xs room taken same;
}
