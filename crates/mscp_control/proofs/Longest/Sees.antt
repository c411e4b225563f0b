-- The command that waits as long as the bound, while others come and run.
use Rattle.mscp_control.proofs.Common.{◌≡◌, ◌≢◌, ℕ, zero, suc, ◌+◌, ◌-◌, ◌*◌, ◌<◌, Bool, true, false, cond, ◌&&◌, [], ◌∷◌, ◌++◌, length, refl, ap, ◌∙◌, subst, arith, nat_lt, if◌then◌else◌, Some, None, is_some, and-false, lt-ltb, length_push, Command, command_bytes, command_of, Shape, Connection, First, Name, name_on, same_name, is_differ, Transfer, Settings, room, Moment, Trace, is_step, ends_in, is_waiting, name, steps_after, unit, connection_at, handing, long_read, pass_on, queueing, read_command, read_end, rest_on, runs_on, short_read, stepping, steps_on, command_before, command_last, connection_last, is_waiting_before, is_waiting_last, name_before, steps_last, steps_more}

-- the command of this name, which came at y and is of this unit, still waits, and has seen so many steps
pub record Sees (t : Trace) (y : ℕ) (n : Name) (number k : ℕ) : Type 0 where
  pub inside : y < length t
  pub named : name t y ≡ n
  pub of_unit : unit t y ≡ number
  pub waits : is_waiting t y ≡ true
  pub steps : steps_after t y ≡ k

pub sees_as : (t : Trace) (y : ℕ) (n : Name) (number k k' : ℕ) → k ≡ k' → Sees t y n number k → Sees t y n number k'
sees_as t y n number k k' e h = subst (λ k. Sees t y n number k) e h

-- it has come
pub sees_first : (t : Trace) (via : Connection) (k : Command) → command_of (command_bytes k) ≡ k
    → Sees (t ++ queueing via k ∷ []) (length t) (name_on via k.reference) k.unit 0
sees_first t via k same = search (arith, command_last, length_push, connection_last, is_waiting_last, steps_last)

-- a moment that doesn't end it
pub sees_more : (t : Trace) (y : ℕ) (n : Name) (number k : ℕ) (m : Moment) → ends_in n m.1 ≡ false
    → Sees t y n number k → Sees (t ++ m ∷ []) y n number (k + cond (is_step m.0) 1 0)
sees_more t y n number k m e h = search (arith, length_push, name_before, command_before, is_waiting_before, steps_more)

-- ---- steps

-- a step that ends no command of its name
unended : (s : Shape) (x : Transfer) (from j : ℕ) (n : Name)
    → (same_name (name_on x.connection x.reference) n ≡ false) → ends_in n (stepping s x from j).1 ≡ false
unended s x from j n other = search arith

-- so many steps of another command
pub sees_steps : (s : Shape) (x : Transfer) (from : ℕ) (t : Trace) (y : ℕ) (n : Name) (number k : ℕ)
    → (same_name (name_on x.connection x.reference) n ≡ false) → Sees t y n number k → (j : ℕ)
    → Sees (steps_on s x from t j) y n number (k + j)
sees_steps s x from t y n number k other h zero = sees_as t y n number k (k + 0) (omega arith) h
sees_steps s x from t y n number k other h (suc j) =
    let before = sees_steps s x from t y n number k other h j in
    sees_as (steps_on s x from t (suc j)) y n number (k + j + 1) (k + suc j) (omega arith)
    (sees_more (steps_on s x from t j) y n number (k + j) (stepping s x from j) (unended s x from j n other) before)

-- and of a command that isn't ended by them
pub sees_part : (s : Shape) (x : Transfer) (from : ℕ) (t : Trace) (y : ℕ) (n : Name) (number k : ℕ)
    → Sees t y n number k → (j : ℕ) → j < x.blocks → Sees (steps_on s x from t j) y n number (k + j)
sees_part s x from t y n number k h zero l = sees_as t y n number k (k + 0) (omega arith) h
sees_part s x from t y n number k h (suc j) l =
    let before = sees_part s x from t y n number k h j (omega (arith, l)) in
    let more : nat_lt 1 (x.blocks - j) ≡ true = lt-ltb 1 (x.blocks - j) (omega (arith, l)) in
    let own = same_name (name_on x.connection x.reference) n in
    let goes : ends_in n (stepping s x from j).1 ≡ false =
    ap (λ (b : Bool). own && is_some (if b then None else Some (read_end s x))) more ∙ and-false own in
    sees_as (steps_on s x from t (suc j)) y n number (k + j + 1) (k + suc j) (omega arith)
    (sees_more (steps_on s x from t j) y n number (k + j) (stepping s x from j) goes before)

-- another command runs to its end, which is taken
pub sees_run : (s : Shape) (x : Transfer) (from : ℕ) (t : Trace) (y : ℕ) (n : Name) (number k : ℕ)
    → (same_name (name_on x.connection x.reference) n ≡ false) → Sees t y n number k
    → Sees (runs_on s x from t) y n number (k + x.blocks)
sees_run s x from t y n number k other h =
    let before = sees_steps s x from t y n number k other h x.blocks in
    sees_as (runs_on s x from t) y n number (k + x.blocks + 0) (k + x.blocks) (omega arith) (sees_more
    (steps_on s x from t x.blocks) y n number (k + x.blocks) (handing x.connection (read_end s x)) refl before)

-- ---- the others

-- commands of two numbers have two names
pub differ : (via other : Connection) (a b : ℕ) → a ≢ b → same_name (name_on via a) (name_on other b) ≡ false
differ via other a b d = is_differ (name_on via a) (name_on other b) (λ e. d (ap (λ (n : Name). n.reference) e))

-- so many pass it
pub sees_pass : (c : Settings) (s : Shape) (t : Trace) (y : ℕ) (n : Name) (number k : ℕ)
    → (same_name (name_on First (room c)) n ≡ false) → Sees t y n number k → (j : ℕ)
    → Sees (pass_on c s t j) y n number (k + j)
sees_pass c s t y n number k other h zero = sees_as t y n number k (k + 0) (omega arith) h
sees_pass c s t y n number k other h (suc j) =
    let before = sees_pass c s t y n number k other h j in
    let m = queueing First (read_command s (short_read c)) in
    let came = sees_more (pass_on c s t j) y n number (k + j) m refl before in
    sees_as (pass_on c s t (suc j)) y n number (k + j + 0 + 1) (k + suc j) (omega arith)
    (sees_run s (short_read c) (c.longest - 1) (pass_on c s t j ++ m ∷ []) y n number (k + j + 0) other came)

-- and so many that came earlier run
pub sees_rest : (c : Settings) (s : Shape) (t : Trace) (y : ℕ) (via : Connection) (r number k : ℕ)
    → Sees t y (name_on via r) number k → (i : ℕ) → i < r
    → Sees (rest_on c s t i) y (name_on via r) number (k + i * c.longest)
sees_rest c s t y via r number k h zero l = sees_as t y (name_on via r) number k (k + 0 * c.longest) (omega arith) h
sees_rest c s t y via r number k h (suc i) l =
    let n = name_on via r in
    let before = sees_rest c s t y via r number k h i (omega (arith, l)) in
    let other : i + 1 ≢ r = λ e. omega (arith, e, l) in
    sees_as (rest_on c s t (suc i)) y n number (k + i * c.longest + c.longest) (k + suc i * c.longest) (omega arith)
    (sees_run s (long_read c (i + 1)) (c.longest - 1) (rest_on c s t i) y n number (k + i * c.longest)
    (differ (connection_at c (i + 1)) via (i + 1) r other) before)
