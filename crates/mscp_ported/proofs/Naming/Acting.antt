-- What a port knows once bytes were read, or an action went some way.
use Rattle.mscp_ported.proofs.Common.{◌≡◌, ◌⊎◌, ℕ, Bool, true, false, ◌/◌, ◌%◌, List, [], ◌∷◌, Option, None, Some, Contains, IfSome, inl, inr, refl, ap, sym, subst, arith, eqb-true, eqb-false, ltb-true, ltb-false, none-some, Result, Ok, Err, nat_eq, num, Outcome, Unasked, Buffer, Port, Stage, Task, rings_named, is_owned, Goes, Hears, StaysInStage, TakesStep, step_answered, HasInOrder, NamesArea, NamesBuffer, NamesPacket, words, IsReadingSlot, IsReadingText, in_hand, Choice}
use Rattle.std.specs.Prelude.{nat_lt}
use Rattle.mscp_port.specs.Buffers.{buffer_in}
use Rattle.mscp_port.specs.declared.stage.Stage.TheVariants as stages
use Rattle.mscp_ported.proofs.Naming.Knowing.{answers, Knows, first_in_order, if_none, if_same, carried, new_knows, dead_knows, Handles, still_knows, here, packet_named_still, buffer_named_still}
use Rattle.mscp_ported.proofs.Naming.Registers.{apart}

-- ---- what was read

-- the packet in hand was in hand before, or its descriptor was read now
pub read_packet : (bytes : List ℕ) (bs : List (List ℕ)) (now before : Option ℕ) (R : Type 0)
    → IfSome now (λ word. (before ≡ Some word) ⊎ (R × (word ≡ num bytes 0 4) × (is_owned word ≡ true)))
    → IfSome before (λ word. NamesPacket bs word) → IfSome now (λ word. NamesPacket (bytes ∷ bs) word)
read_packet bytes bs now before R h5 h6 = grind (arith, packet_named_still, here)

-- the buffer was kept before, or is in what was read now
pub read_buffer : (bytes : List ℕ) (bs : List (List ℕ)) (b : Buffer) (Before R : Type 0) → (Before → NamesBuffer bs b)
    → Before ⊎ (R × (changes : ℕ) × (b ≡ buffer_in bytes changes)) → NamesBuffer (bytes ∷ bs) b
read_buffer bytes bs b Before R k h = search (arith, here bytes bs, buffer_named_still)

pub after_read : {K : Type 0} (ws : List ℕ) (bs : List (List ℕ)) (old new : Port K) (bytes : List ℕ)
    (result : Result Unit Unasked) → Knows ws bs old → Hears bytes old result new → Knows ws (bytes ∷ bs) new
after_read ws bs old new bytes result k r = elim r.frame [
  | inl e ↦ still_knows ws bs (bytes ∷ bs) old new k
      (record {
        taken = inl (ap (λ p. answers p.stage p.words) e);
        given = ap (λ p. p.written) e;
        area = ap (λ p. p.rings) e;
      })
      (record {
        packet = read_packet bytes bs (in_hand new.task) (in_hand old.task) (IsReadingSlot old.task) r.learns.packet
            k.packet;
        buffer = λ b there. read_buffer bytes bs b (Contains old.buffers.items b) (IsReadingText old.task) (k.buffer b)
            (r.learns.buffers b there);
      })
  | inr dead ↦ dead_knows ws (bytes ∷ bs) old new dead
]

-- ---- how an action went

pub acted : {K : Type 0} (picks : List Choice → ℕ
    → Type 0) (ws : List ℕ) (bs : List (List ℕ)) (old new : Port K) (outcome : Outcome)
    (result : Result Unit Unasked) → Knows ws bs old → Goes picks outcome old result new → new.words ≡ old.words
    → new.written ≡ old.written → new.rings ≡ old.rings → StaysInStage old new → Knows ws bs new
acted picks ws bs old new outcome result k r words written rings stays =
    let handles : Handles bs new = record {
      packet = carried (in_hand new.task) (in_hand old.task) (λ word. NamesPacket bs word) r.packet k.packet;
      buffer = λ b there. k.buffer b (r.buffers b there);
    } in
    search (arith, still_knows, answers, dead_knows)

-- no step is taken
pub no_step : {K : Type 0} (picks : List Choice → ℕ
    → Type 0) (ws : List ℕ) (bs : List (List ℕ)) (old new : Port K) (outcome : Outcome)
    (result : Result Unit Unasked) → Knows ws bs old → Goes picks outcome old result new
    → step_answered old.task old.written ≡ None → Knows ws bs new
no_step picks ws bs old new outcome result k r none = search (arith, acted, dead_knows)

-- the word of the step that is taken is the one that the host wrote
pub word_given : (task : Task) (written : Option ℕ) (word : ℕ) → step_answered task written ≡ Some word
    → written ≡ Some word
word_given task written word h3 = grind (arith, none-some)

-- after a step: these steps were taken, and no word waits for one
pub stepped : {K : Type 0} (ws : List ℕ) (bs : List (List ℕ)) (new : Port K) (xs : List ℕ)
    → answers new.stage new.words ≡ xs → HasInOrder xs ws → new.written ≡ None
    → IfSome new.rings (λ r. NamesArea ws r) → Handles bs new → Knows ws bs new
stepped ws bs new xs e h none area handles = search (arith, answers new.stage new.words, if_none)

pub first_step : {K : Type 0} (ws : List ℕ) (bs : List (List ℕ)) (old new : Port K) (word : ℕ) → Knows ws bs old
    → HasInOrder (word ∷ answers old.stage old.words) ws → Handles bs new → TakesStep word old new
    → old.stage ≡ stages.First → (b : Bool) → nat_eq (word / 0x4000 % 2) 1 ≡ b → Knows ws bs new
first_step ws bs old new word h5 h6 h7 h8 h9 b h11 =
    grind (arith, eqb-true, stepped, answers, if_same, eqb-false, first_in_order)

pub second_step : {K : Type 0} (ws : List ℕ) (bs : List (List ℕ)) (old new : Port K) (word : ℕ) → Knows ws bs old
    → HasInOrder (word ∷ answers old.stage old.words) ws → Handles bs new → TakesStep word old new
    → old.stage ≡ stages.Second → Knows ws bs new
second_step ws bs old new word k given handles t e = search (arith, stepped, answers, if_same)

-- the area is named by the third step, and cleared at once or after the test
pub third_taken : {K : Type 0} (ws : List ℕ) (bs : List (List ℕ)) (old new : Port K) (word : ℕ)
    → HasInOrder (word ∷ answers old.stage old.words) ws → Handles bs new → old.stage ≡ stages.Third
    → answers new.stage new.words ≡ [] → new.written ≡ None
    → new.rings ≡ rings_named old.words.first old.words.second word → Knows ws bs new
third_taken ws bs old new word given handles e none written rings = search (arith, stepped, if_same, answers)

pub third_step : {K : Type 0} (ws : List ℕ) (bs : List (List ℕ)) (old new : Port K) (word : ℕ)
    → HasInOrder (word ∷ answers old.stage old.words) ws → Handles bs new → TakesStep word old new
    → old.stage ≡ stages.Third → (b : Bool) → nat_lt word 0x8000 ≡ b → Knows ws bs new
third_step ws bs old new word h5 h6 h7 h8 b h10 =
    search (arith, ltb-true, ltb-false, third_taken, answers, new_knows, none-some)

abbrev pub is_first : Stage → Bool
is_first stages.First = true
is_first s = false

abbrev pub is_second : Stage → Bool
is_second stages.Second = true
is_second s = false

abbrev pub is_third : Stage → Bool
is_third stages.Third = true
is_third s = false

-- a word that answers no step is forgotten
pub step_elsewhere : {K : Type 0} (ws : List ℕ) (bs : List (List ℕ)) (old new : Port K) (word : ℕ) (s : Stage)
    → Knows ws bs old → TakesStep word old new → is_first s ≡ false → is_second s ≡ false → is_third s ≡ false
    → old.stage ≡ s → Knows ws bs new
step_elsewhere ws bs old new word s k t first second third e =
    search (
      arith,
      apart is_first old.stage s stages.First e first refl,
      apart is_second old.stage s stages.Second e
          second refl,
      apart is_third old.stage s stages.Third e third refl,
    )

pub after_step : {K : Type 0} (ws : List ℕ) (bs : List (List ℕ)) (old new : Port K) (word : ℕ) → Knows ws bs old
    → HasInOrder (word ∷ answers old.stage old.words) ws → Handles bs new → TakesStep word old new → Knows ws bs new
after_step ws bs old new word k given handles t =
    let Then : Stage → Type 0 = λ s. old.stage ≡ s → Knows ws bs new in
    let by_stage : (s : Stage) → Then s = λ s. elim s as Then [
      | stages.First ↦ λ e. first_step ws bs old new word k given handles t e (nat_eq (word / 0x4000 % 2) 1) refl
      | stages.Wrapped other ↦ step_elsewhere ws bs old new word (stages.Wrapped other) k t refl refl refl
      | stages.Second ↦ second_step ws bs old new word k given handles t
      | stages.Third ↦ λ e. third_step ws bs old new word given handles t e (nat_lt word 0x8000) refl
      | stages.Purging ↦ step_elsewhere ws bs old new word stages.Purging k t refl refl refl
      | stages.Probing ↦ step_elsewhere ws bs old new word stages.Probing k t refl refl refl
      | stages.Clearing ↦ step_elsewhere ws bs old new word stages.Clearing k t refl refl refl
      | stages.Last ↦ step_elsewhere ws bs old new word stages.Last k t refl refl refl
      | stages.Up ↦ step_elsewhere ws bs old new word stages.Up k t refl refl refl
      | stages.Dead code ↦ step_elsewhere ws bs old new word (stages.Dead code) k t refl refl refl
    ] in
    by_stage old.stage refl

pub done_or_not : {K : Type 0} (picks : List Choice → ℕ
    → Type 0) (ws : List ℕ) (bs : List (List ℕ)) (old new : Port K) (outcome : Outcome)
    (done : Unit {0}) → Knows ws bs old → Goes picks outcome old (Ok done) new → (o : Option ℕ)
    → step_answered old.task old.written ≡ o → Knows ws bs new
done_or_not picks ws bs old new outcome done k r None e = no_step _ ws bs old new outcome (Ok done) k r e
done_or_not picks ws bs old new outcome done k r (Some word) e =
    let written : old.written ≡ Some word = word_given old.task old.written word e in
    after_step ws bs old new word k
    (subst (λ o. IfSome o (λ w. HasInOrder (w ∷ answers old.stage old.words) ws)) written k.given)
    (record {
      packet = carried (in_hand new.task) (in_hand old.task) (λ w. NamesPacket bs w) r.packet k.packet;
      buffer = λ b there. k.buffer b (r.buffers b there);
    })
    (subst (λ o. IfSome o (λ w. TakesStep w old new)) e (r.steps refl))

pub after_went : {K : Type 0} (picks : List Choice → ℕ
    → Type 0) (ws : List ℕ) (bs : List (List ℕ)) (old new : Port K) (outcome : Outcome)
    (result : Result Unit Unasked) → Knows ws bs old → Goes picks outcome old result new → Knows ws bs new
after_went picks ws bs old new outcome (Ok done) k r =
    done_or_not _ ws bs old new outcome done k r (step_answered old.task old.written) refl
after_went picks ws bs old new outcome (Err unasked) k r = subst (Knows ws bs) (sym r.unasked) k
