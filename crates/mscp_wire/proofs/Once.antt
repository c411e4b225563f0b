-- One thing comes of a log: the first line that can't be right is one line, and a log that is right has none.
use Rattle.mscp_wire.proofs.Common.{AreRightLines, Cause, Comes, Err, IsFirstFault, IsFirstWrong, IsRightLog, IsTooLarge, Judges, List, Log, None, Ok, Reaches, ReadFault, Result, Says, ScriptFault, Some, Tell, Verdict, Wrong, [], ap, arith, broken_in, broken_said, command_of, controller, inl, inr, length, line_says, nothing, outstanding, passed_of, refl, seen_before, subst, sym, told, with_either, with_line, with_lines, with_said, ℕ, ⊎_elim, ◌++◌, ◌+◌, ◌>>=◌, ◌∙◌, ◌∷◌, ◌≡◌, ◌⊎◌}
use Rattle.mscp_reader.specs.declared.fault.ReadFault.TheVariants as reads
use Rattle.mscp_wire.specs.declared.line.Said.TheVariants as says
use Rattle.mscp_wire.specs.declared.log.Verdict.TheVariants as verdicts
use Rattle.mscp_wire.proofs.Meaning.{lines_split, right_split}

-- a log stops at this line: no log that is right comes of it
abbrev Stops : ℕ → Log → List ℕ → Type 0
Stops n log line =
    (next : Log) → with_line n log line ≡ Ok next → broken_said log (line_says n line) ≡ None → ⊥

-- nothing that is right goes on behind it
passes : (before rest : List (List ℕ)) (line : List ℕ) (n : ℕ) (log final : Log) → n ≡ length before + 1
    → with_lines 0 nothing before ≡ Ok log → Stops n log line → Tell (before ++ line ∷ rest) final → ⊥
unfolding with_lines AreRightLines
passes before rest line n log final count told stops tell =
    let place : n ≡ 0 + length before + 1 = omega (arith, count) in
    let goes : (with_line n log line >>= λ next. with_lines n next rest) ≡ Ok final =
    rw place (ap (λ x. x >>= λ l. with_lines (0 + length before) l (line ∷ rest)) (sym told)
    ∙ sym (lines_split before (line ∷ rest) 0 nothing) ∙ tell.told) in
    let right = right_split before (line ∷ rest) 0 nothing log tell.right told in
    by_line (with_line n log line) refl goes
    (subst (λ k. broken_said log (line_says k line) ≡ None) (sym place) right.0)
  where
    by_line : (read : Result Log Cause) → with_line n log line ≡ read
        → (read >>= λ next. with_lines n next rest) ≡ Ok final → broken_said log (line_says n line) ≡ None → ⊥
    by_line (Ok next) e k none = stops next e none
    by_line (Err cause) e k none = cc

-- two places in a list are one, or one comes before the other
places : (a b c d : List (List ℕ)) (x y : List ℕ) → a ++ x ∷ b ≡ c ++ y ∷ d
    → ((a ≡ c) × (x ≡ y))
    ⊎ (((rest : List (List ℕ)) × (c ≡ a ++ x ∷ rest)) ⊎ ((rest : List (List ℕ)) × (a ≡ c ++ y ∷ rest)))
places [] b [] d x y h = inl (refl, cc)
places [] b (z ∷ c) d x y h = let e : z ≡ x = cc in inr (inl (c, ap (λ w. w ∷ c) e))
places (z ∷ a) b [] d x y h = let e : z ≡ y = cc in inr (inr (a, ap (λ w. w ∷ a) e))
places (z ∷ a) b (w ∷ c) d x y h =
    let e : z ≡ w = cc in
    let t : a ++ x ∷ b ≡ c ++ y ∷ d = cc in
    ⊎_elim (λ p. inl (ap (λ l. z ∷ l) p.0 ∙ ap (λ v. v ∷ c) e, p.1))
    (λ p. inr (⊎_elim
    (λ q. inl (q.0, ap (λ l. w ∷ l) q.1 ∙ ap (λ v. v ∷ (a ++ x ∷ q.0)) (sym e)))
    (λ q. inr (q.0, ap (λ l. z ∷ l) q.1 ∙ ap (λ v. v ∷ (c ++ y ∷ q.0)) e)) p))
    (places a b c d x y t)

module _ (bytes : List ℕ) where
  -- a line at which a log of these bytes stops
  record Stop (n : ℕ) (line : List ℕ) (log : Log) : Type 0 where
    reached : Reaches bytes n line log
    stops : Stops n log line

  -- it does where a moment breaks a rule,
  wrong_stops : (wrong : Wrong) (w : IsFirstWrong bytes wrong) → Stop wrong.line w.line w.log
  unfolding with_line
  wrong_stops wrong w = record { reached = w.reached; stops = stops }
    where
      stops : Stops wrong.line w.log w.line
      stops next h r =
          let none : broken_in w.log wrong.moment ≡ None = ap (broken_said w.log) (sym w.is_wrong.says) ∙ r in
          let never : Some wrong.rule ≡ None = sym w.is_wrong.rule ∙ none in
          cc

  -- and at a fault
  fault_stops : (fault : ScriptFault) (f : IsFirstFault bytes fault) → Stop fault.line f.line f.log
  fault_stops fault f = record {
    reached = f.reached;
    stops = λ next k r. let never : Err fault.cause ≡ Ok next = sym f.cause ∙ k in cc;
  }

  -- a log that is right stops nowhere
  right_goes : (n : ℕ) (line : List ℕ) (log final : Log) → Stop n line log → IsRightLog bytes final → ⊥
  right_goes n line log final s right =
      let r = s.reached in
      passes r.before r.rest line n log final r.counted r.tell.told s.stops
      (subst (λ ls. Tell ls final) r.whole right.tell)

  -- and any other at one line
  record Same (n m : ℕ) (line other : List ℕ) (log there : Log) : Type 0 where
    number : n ≡ m
    words : line ≡ other
    before : log ≡ there

  stops_once : (n m : ℕ) (line other : List ℕ) (log there : Log) → Stop n line log → Stop m other there
      → Same n m line other log there
  stops_once n m line other log there s t =
      let r = s.reached in
      let q = t.reached in
      ⊎_elim (λ e.
      let k : Ok log ≡ Ok there = sym r.tell.told ∙ ap (with_lines 0 nothing) e.0 ∙ q.tell.told in
      record { number = r.counted ∙ ap (λ ls. length ls + 1) e.0 ∙ sym q.counted; words = e.1; before = cc })
      (⊎_elim
      (λ p. absurd (passes r.before p.0 line n log there r.counted r.tell.told s.stops
      (subst (λ ls. Tell ls there) p.1 q.tell)))
      (λ p. absurd (passes q.before p.0 other m there log q.counted q.tell.told t.stops
      (subst (λ ls. Tell ls log) p.1 r.tell))))
      (places r.before r.rest q.before q.rest line other (sym r.whole ∙ q.whole))

  right_wrong : (log : Log) (wrong : Wrong) → IsRightLog bytes log → IsFirstWrong bytes wrong → ⊥
  right_wrong log wrong r w = right_goes wrong.line w.line w.log log (wrong_stops wrong w) r

  right_fault : (log : Log) (fault : ScriptFault) → IsRightLog bytes log
      → IsTooLarge bytes fault ⊎ IsFirstFault bytes fault → ⊥
  right_fault log fault r (inl large) = omega (arith, large.0, r.small)
  right_fault log fault r (inr f) = right_goes fault.line f.line f.log log (fault_stops fault f) r

  wrong_fault : (wrong : Wrong) (fault : ScriptFault) → IsFirstWrong bytes wrong
      → IsTooLarge bytes fault ⊎ IsFirstFault bytes fault → ⊥
  unfolding with_line
  wrong_fault wrong fault w (inl large) = omega (arith, large.0, w.reached.small)
  wrong_fault wrong fault w (inr f) =
      let s = stops_once wrong.line fault.line w.line f.line w.log f.log (wrong_stops wrong w) (fault_stops fault f) in
      let e : (line_says wrong.line w.line >>= with_said wrong.line w.log) ≡ Err fault.cause =
      rw (s.number, s.words, s.before) f.cause in
      let never : Ok (with_either wrong.line w.log wrong.moment) ≡ Err fault.cause =
      rw w.is_wrong.says at e in
      cc

  wrong_once : (wrong other : Wrong) → IsFirstWrong bytes wrong → IsFirstWrong bytes other → wrong ≡ other
  wrong_once wrong other w v =
      let s = stops_once wrong.line other.line w.line v.line w.log v.log (wrong_stops wrong w) (wrong_stops other v) in
      let said : Ok (says.Happens wrong.moment) ≡ Ok (says.Happens other.moment) =
      sym (rw (s.number, s.words) at w.is_wrong.says) ∙ v.is_wrong.says in
      let moment : wrong.moment ≡ other.moment = cc in
      one v.log s.number moment (rw s.before at w.is_wrong.rule) v.is_wrong.rule (rw s.before at w.is_wrong.command)
      v.is_wrong.command (rw s.before at w.is_wrong.passed) v.is_wrong.passed (rw s.before at w.is_wrong.seen)
      v.is_wrong.seen
    where
      one : (log : Log) → wrong.line ≡ other.line → wrong.moment ≡ other.moment
          → broken_in log wrong.moment ≡ Some wrong.rule → broken_in log other.moment ≡ Some other.rule
          → wrong.command ≡ command_of (outstanding log.moments) wrong.moment
          → other.command ≡ command_of (outstanding log.moments) other.moment
          → wrong.passed ≡ passed_of (outstanding log.moments) wrong.moment
          → other.passed ≡ passed_of (outstanding log.moments) other.moment
          → wrong.seen ≡ seen_before (outstanding log.moments) (told log.moments) (controller log.moments) wrong.moment
          → other.seen ≡ seen_before (outstanding log.moments) (told log.moments) (controller log.moments) other.moment
          → wrong ≡ other
      one log l m r s c d p q u v = grind arith

  fault_once : (fault other : ScriptFault) → IsTooLarge bytes fault ⊎ IsFirstFault bytes fault
      → IsTooLarge bytes other ⊎ IsFirstFault bytes other → fault ≡ other
  fault_once fault other (inl large) (inl too) = large.1 ∙ sym too.1
  fault_once fault other (inl large) (inr f) = absurd (omega (arith, large.0, f.reached.small))
  fault_once fault other (inr f) (inl large) = absurd (omega (arith, large.0, f.reached.small))
  fault_once fault other (inr f) (inr k) =
      let s = stops_once fault.line other.line f.line k.line f.log k.log (fault_stops fault f) (fault_stops other k) in
      let e : with_line other.line k.log k.line ≡ Err fault.cause = rw (s.number, s.words, s.before) at f.cause in
      let causes : Err fault.cause ≡ Err other.cause = sym e ∙ k.cause in
      let cause : fault.cause ≡ other.cause = cc in
      ap (λ x. record fault { line = x }) s.number ∙ ap (λ x. record other { cause = x }) cause

  -- what comes of a log is one thing
  comes_once : (came other : Result (Result Log Wrong) ScriptFault) → Comes bytes came → Comes bytes other
      → came ≡ other
  comes_once (Ok (Ok log)) (Ok (Ok there)) r q =
      let told : Ok log ≡ Ok there = sym r.tell.told ∙ q.tell.told in
      let same : log ≡ there = cc in
      ap (λ l. Ok (Ok l)) same
  comes_once (Ok (Ok log)) (Ok (Err wrong)) r w = absurd (right_wrong log wrong r w)
  comes_once (Ok (Ok log)) (Err fault) r f = absurd (right_fault log fault r f)
  comes_once (Ok (Err wrong)) (Ok (Ok log)) w r = absurd (right_wrong log wrong r w)
  comes_once (Ok (Err wrong)) (Ok (Err other)) w v = ap (λ x. Ok (Err x)) (wrong_once wrong other w v)
  comes_once (Ok (Err wrong)) (Err fault) w f = absurd (wrong_fault wrong fault w f)
  comes_once (Err fault) (Ok (Ok log)) f r = absurd (right_fault log fault r f)
  comes_once (Err fault) (Ok (Err wrong)) f w = absurd (wrong_fault wrong fault w f)
  comes_once (Err fault) (Err other) f k = ap (λ x. Err x) (fault_once fault other f k)

  -- so what was said is all that comes of it
  pub only_from : {A : Type 0} (result : Result (Verdict A) ReadFault) → Judges result bytes
      → (came : Result (Result Log Wrong) ScriptFault) → Comes bytes came → Says result came
  only_from (Ok (verdicts.Right totals doubts commands)) j came k =
      (j.0, comes_once came (Ok (Ok j.0)) k j.1, j.2, j.3, j.4)
  only_from (Ok (verdicts.Wrong wrong)) j came k = comes_once came (Ok (Err wrong)) k j
  only_from (Err (reads.Script fault)) j came k = comes_once came (Err fault) k j
  only_from (Err reads.OutOfMemory) j came k = tt
