-- What a port knows once a register was touched, or an action was wanted.
use Rattle.mscp_ported.proofs.Common.{◌≡◌, ◌≢◌, ℕ, Bool, true, false, cond, ◌%◌, List, [], ◌∷◌, Some, Contains, inl, inr, refl, ap, sym, ◌∙◌, subst, arith, eqb-true, eqb-false, false≢true, none-some, nat_eq, Action, Port, Words, Stage, NamesPacket, ReadsIp, Wants, WritesSa, Choice, in_hand}
use Rattle.std.specs.Prelude.{nat_lt}
use Rattle.mscp_port.specs.declared.stage.Stage.TheVariants as stages
use Rattle.mscp_ported.proofs.Naming.Knowing.{answers, Knows, in_order_behind, in_order_more, carried, new_knows, still_knows, knows_more_words}

-- ---- by each call

-- two stages differ of which a test says otherwise
pub apart : (test : Stage → Bool) (at s t : Stage) → at ≡ s → test s ≡ false → test t ≡ true → at ≢ t
apart test at s t e out within same = false≢true (sym out ∙ ap test (sym e ∙ same) ∙ within)

abbrev pub is_up : Stage → Bool
is_up stages.Up = true
is_up s = false

abbrev pub is_probing : Stage → Bool
is_probing stages.Probing = true
is_probing s = false

-- a port in another stage than the last and the poll test doesn't change by a read of IP
pub unread : {K : Type 0} (ws : List ℕ) (bs : List (List ℕ)) (old new : Port K) (s : Stage) → Knows ws bs old
    → ReadsIp old new → is_up s ≡ false → is_probing s ≡ false → old.stage ≡ s → Knows ws bs new
unread ws bs old new s k r up probing e =
    subst (Knows ws bs) (sym (r.elsewhere (apart is_up old.stage s stages.Up e up refl)
    (apart is_probing old.stage s stages.Probing e probing refl))) k

pub up_read : {K : Type 0} (ws : List ℕ) (bs : List (List ℕ)) (old new : Port K) → Knows ws bs old → ReadsIp old new
    → old.stage ≡ stages.Up → Knows ws bs new
up_read ws bs old new k r e = search arith

pub probed : {K : Type 0} (ws : List ℕ) (bs : List (List ℕ)) (old new : Port K) → Knows ws bs old → ReadsIp old new
    → old.stage ≡ stages.Probing → Knows ws bs new
probed ws bs old new k r e = search (arith, still_knows, new_knows, none-some)

pub after_read_ip : {K : Type 0} (ws : List ℕ) (bs : List (List ℕ)) (old new : Port K) → Knows ws bs old
    → ReadsIp old new → Knows ws bs new
after_read_ip ws bs old new k r =
    search (
      arith,
      unread ws bs old new stages.First k r refl refl,
      unread ws bs old new stages.Second k r refl refl,
      unread ws bs old new stages.Third k r refl refl,
      unread ws bs old new stages.Purging k r refl refl,
      probed ws bs old
          new k r,
      unread ws bs old new stages.Clearing k r refl refl,
      unread ws bs old new stages.Last k r refl refl,
      up_read
          ws bs old new k r,
    )

-- the word that the host wrote answers the step that it is to answer
pub answered_now : {K : Type 0} (ws : List ℕ) (bs : List (List ℕ)) (old new : Port K) (word : ℕ) → Knows ws bs old
    → new ≡ record old { written = Some word } → Knows (word ∷ ws) bs new
answered_now ws bs old new word k e =
    search (
      arith,
      in_order_behind (answers old.stage old.words) ws word k.taken,
      answers old.stage old.words,
      in_order_more (answers old.stage old.words) ws word k.taken,
      knows_more_words ws bs old word k,
    )

-- the word leads to a stage in which no step is to be taken, or has been
pub led_on : {K : Type 0} (ws : List ℕ) (bs : List (List ℕ)) (old new : Port K) (word : ℕ) (s : Stage) → Knows ws bs old
    → ((w : Words) → answers s w ≡ []) → new ≡ record old { stage = s } → Knows (word ∷ ws) bs new
led_on ws bs old new word s k none e =
    search (
      arith,
      still_knows (word ∷ ws) bs bs old (record old { stage = s }) (knows_more_words ws bs old word k)
          (record { taken = inr (none old.words); given = refl; area = refl }) (record {
            packet = k.packet;
            buffer = k.buffer;
          }),
      knows_more_words ws bs old word k,
    )

pub ignored : {K : Type 0} (ws : List ℕ) (bs : List (List ℕ)) (old new : Port K) (word : ℕ) → Knows ws bs old
    → new ≡ old → Knows (word ∷ ws) bs new
ignored ws bs old new word k e = subst (Knows (word ∷ ws) bs) (sym e) (knows_more_words ws bs old word k)

pub first_written : {K : Type 0} (ws : List ℕ) (bs : List (List ℕ)) (old new : Port K) (word : ℕ) → Knows ws bs old
    → (b : Bool) → new ≡ cond b old (record old { written = Some word }) → Knows (word ∷ ws) bs new
first_written ws bs old new word k true e = ignored ws bs old new word k e
first_written ws bs old new word k false e = answered_now ws bs old new word k e

pub said_go : {K : Type 0} (ws : List ℕ) (bs : List (List ℕ)) (old new : Port K) (word : ℕ) → Knows ws bs old
    → (b : Bool) → new ≡ cond b (record old { stage = stages.Up }) old → Knows (word ∷ ws) bs new
said_go ws bs old new word k true e = led_on ws bs old new word stages.Up k (λ w. refl) e
said_go ws bs old new word k false e = ignored ws bs old new word k e

pub purged : {K : Type 0} (ws : List ℕ) (bs : List (List ℕ)) (old new : Port K) (word : ℕ) → Knows ws bs old
    → WritesSa word old new → old.stage ≡ stages.Purging → (b : Bool) → nat_eq word 0 ≡ b → Knows (word ∷ ws) bs new
purged ws bs old new word k r e true is =
    led_on ws bs old new word stages.Probing k (λ w. refl) (r.purged e (eqb-true word 0 is))
purged ws bs old new word k r e false is = search (arith, eqb-false word 0 is, new_knows)

pub after_write_sa : {K : Type 0} (ws : List ℕ) (bs : List (List ℕ)) (old new : Port K) (word : ℕ) → Knows ws bs old
    → WritesSa word old new → Knows (word ∷ ws) bs new
after_write_sa ws bs old new word k r =
    let Then : Stage → Type 0 = λ s. old.stage ≡ s → Knows (word ∷ ws) bs new in
    let by_stage : (s : Stage) → Then s = λ s. elim s as Then [
      | stages.First ↦ λ e. first_written ws bs old new word k (nat_lt word 0x8000) (r.first e)
      | stages.Wrapped other ↦ λ e. led_on ws bs old new word (stages.Wrapped word) k (λ w. refl) (r.wrapped other e)
      | stages.Second ↦ λ e. answered_now ws bs old new word k (r.second e)
      | stages.Third ↦ λ e. answered_now ws bs old new word k (r.third e)
      | stages.Purging ↦ λ e. purged ws bs old new word k r e (nat_eq word 0) refl
      | stages.Probing ↦ λ e. ignored ws bs old new word k (r.probing e)
      | stages.Clearing ↦ λ e. ignored ws bs old new word k (r.clearing e)
      | stages.Last ↦ λ e. said_go ws bs old new word k (nat_eq (word % 2) 1) (r.last e)
      | stages.Up ↦ λ e. ignored ws bs old new word k (r.up e)
      | stages.Dead code ↦ λ e. ignored ws bs old new word k (r.dead code e)
    ] in
    by_stage old.stage refl

-- nothing is learned as an action is wanted
pub after_next : {K : Type 0} (picks : List Choice → ℕ
    → Type 0) (ws : List ℕ) (bs : List (List ℕ)) (old new : Port K) (blocks : Bool) (action : Action)
    → Knows ws bs old → Wants picks blocks old action new → Knows ws bs new
after_next {K} picks ws bs old new blocks action k r =
    still_knows ws bs bs old new k
    (record {
      taken = inl (ap (λ (p : Port K). answers p.stage p.words) r.frame);
      given = ap (λ (p : Port K). p.written) r.frame;
      area = ap (λ (p : Port K). p.rings) r.frame;
    })
    (record {
      packet = carried (in_hand new.task) (in_hand old.task) (λ word. NamesPacket bs word) r.packet k.packet;
      buffer = λ b h. k.buffer b (subst (λ (p : Port K). Contains p.buffers.items b) r.frame h);
    })
