-- An end that a step gives says that its unit is online, or that it isn't, only if that is so.
use Rattle.mscp_logged.proofs.Common.{Answer, Bool, Decided, End, First, Hardware, IsFault, List, Order, Shape, Verdict, Volume, and_parts, answer_by, ap, arith, bad_status, block_told, block_touched, brings, end_with_body, endcode, ends_formality, eqb-true, false, false≢true, inl, inr, is_immediate, is_moved, is_of_unit, is_some, moved_by, nat_eq, outcome_status, refl, says_away, says_online, status_after, subst, sym, true, unit_found, ℕ, ◌%◌, ◌/◌, ◌||◌, ◌∙◌, ◌≡◌, ◌≢◌, ◌⊎◌, port_answers}
use Rattle.mscp_packet.specs.declared.command.Order.TheVariants as orders
use Rattle.mscp_drive.specs.declared.block.Block.TheVariants as blocks
use Rattle.mscp_port.specs.declared.verdict.Verdict.TheVariants as verdicts
use Rattle.mscp_logged.proofs.Away.{Says}
use Rattle.mscp_logged.proofs.Describing.{IsAsWas}
use Rattle.mscp_logged.proofs.Stepped.{IsDecided, IsGivenEnd, online_told}
use Rattle.mscp_logged.proofs.Sure.{IsSure}
use Rattle.mscp_logged.proofs.Texts.{text_with}
use Rattle.mscp_logged.proofs.Worded.{Reads, text_reads}

-- ---- what an end says

-- it says that its unit is online: by this code
abbrev pub IsOnlineCode : ℕ → ℕ → Type 0
IsOnlineCode code bit = (is_moved code ≡ true) ⊎ (code ≡ 0x83) ⊎ ((code ≡ 0x89) × (bit ≡ 1))

pub online_parts : (e : Answer) → says_online e ≡ true
    → (e.status % 32 ≡ 0) × IsOnlineCode e.code (e.status / 256 % 2)
online_parts e h = grind (arith, eqb-true, and_parts)

-- or that it isn't: by this code and status
abbrev pub IsAwayCode : ℕ → ℕ → Type 0
IsAwayCode code status = ((status ≡ 0) × (code ≡ 0x88))
    ⊎ ((status ≡ 4) × ((is_of_unit code || nat_eq code 0x83) ≡ true)) ⊎ ((status ≡ 3) × (is_of_unit code ≡ true))

pub away_parts : (e : Answer) → says_away e ≡ true → IsAwayCode e.code (e.status % 32)
away_parts e h = grind (arith, and_parts, eqb-true)

-- no formality's end says either
pub formal_online : (code bit : ℕ) → ends_formality code ≡ true → IsOnlineCode code bit → ⊥
unfolding port_answers
formal_online code bit e h = grind (arith, e, h)

pub formal_away : (code status : ℕ) → ends_formality code ≡ true → IsAwayCode code status → ⊥
unfolding port_answers
formal_away code status e h = grind (arith, e, h)

-- ---- statuses

-- the codes of Unit-Available and Unit-Offline
abbrev IsGone : ℕ → Type 0
IsGone code = (code ≡ 4) ⊎ (code ≡ 3)

error_bad : (online : Bool) (order : Order) → bad_status online 0x000B order % 32 ≡ 0 → ⊥
error_bad online order e = grind arith

-- where one of them is told, the unit isn't online, and no ONLINE succeeded
abbrev IsOff : Volume → ℕ → ℕ → Type 0
IsOff v code given = (v.is_mounted ≡ false) × (code ≡ 0x89 → given % 32 ≡ 0 → ⊥)

module _ (v : Volume) (online : Bool) (driven : v.is_mounted ≡ true → online ≡ true) where
  abbrev Told : Order → Verdict → Type 0
  Told order verdict = IsGone (status_after verdict (endcode order)
      (outcome_status online order (block_told verdict)) v % 32)

  -- of any command that waited
  gone_off : (order : Order) (verdict : Verdict) → is_immediate order ≡ false
      → ((byte why : ℕ) → order ≢ orders.Invalid byte why) → (moves : Bool) → IsSure moves v verdict
      → IsFault (block_told verdict) → Told order verdict
      → IsOff v (endcode order) (outcome_status online order (block_told verdict))
  gone_off order verdicts.NoVolume waits valid moves sure fault h = (sure, λ code good. error_bad online order good)
  gone_off order verdicts.NotOnline waits valid moves sure fault h = (sure, λ code good. error_bad online order good)
  gone_off (orders.Move kind count block) (verdicts.Served b) waits valid moves sure fault h = grind arith
  gone_off orders.Online (verdicts.Served blocks.Good) waits valid moves sure fault h = grind arith
  gone_off orders.Online (verdicts.Served (blocks.Bad n)) waits valid moves sure fault h = grind arith
  gone_off (orders.Invalid byte why) verdict waits valid moves sure fault h = absurd (valid byte why refl)
  gone_off order (verdicts.Served b) waits valid moves sure fault h = grind arith

-- ---- ends

module _ (h : Hardware) (units : List Shape) (verdict : Verdict) (online : Bool) (done : ℕ) (v w : Volume) (e : End)
    (d : Decided) (order : Order) (given : IsGivenEnd order online verdict e)
    (decided : IsDecided units verdict v w e d)
    (sure : IsSure (is_some (moved_by order (block_touched online order done))) v verdict)
    (fault : IsFault (block_told verdict)) (driven : v.is_mounted ≡ true → online ≡ true)
    (mounted : w.is_mounted ≡ true → (v.is_mounted ≡ true) ⊎ ((e.code ≡ 0x89) × (e.status % 32 ≡ 0)))
    (left : e.code ≡ 0x88 → e.status % 32 ≡ 0 → w.is_mounted ≡ false) where
  abbrev a : Answer
  a = answer_by First (text_with h units e d)

  abbrev given_status : ℕ
  given_status = outcome_status online order (block_told verdict)

  module _ (plain : ends_formality d.code ≡ false) (reads : Reads a e.code d.status) where
    status : d.status ≡ status_after verdict (endcode order) given_status v
    status = grind arith

    low : a.status % 32 ≡ status_after verdict (endcode order) given_status v % 32
    low = reads.low ∙ ap (λ n. n % 32) status

    code : a.code ≡ endcode order
    code = reads.code ∙ given.code

    on_so : says_online a ≡ true → v.is_mounted ≡ true
    on_so says = by order (sym low ∙ p.0) (subst (λ n. IsOnlineCode n (a.status / 256 % 2)) code p.1) sure
        (reads.bit ∙ ap (λ n. n / 256 % 2) status) given.waits given.valid
      where
        p : (a.status % 32 ≡ 0) × IsOnlineCode a.code (a.status / 256 % 2)
        p = online_parts a says

        by : (order : Order) → status_after verdict (endcode order)
            (outcome_status online order (block_told verdict)) v % 32 ≡ 0
            → IsOnlineCode (endcode order) (a.status / 256 % 2)
            → IsSure (is_some (moved_by order (block_touched online order done))) v verdict
            → a.status / 256 % 2 ≡ status_after verdict (endcode order)
            (outcome_status online order (block_told verdict)) v / 256 % 2
            → is_immediate order ≡ false → ((byte why : ℕ) → order ≢ orders.Invalid byte why) → v.is_mounted ≡ true
        by (orders.Move kind count block) good on sure bit waits valid = grind arith
        by orders.Online good (inl x) sure bit waits valid = absurd (false≢true x)
        by orders.Online good (inr (inl x)) sure bit waits valid = search (arith, x)
        by orders.Online good (inr (inr x)) sure bit waits valid =
            (online_told v verdict online sure).was good (sym bit ∙ x.1)
        by (orders.Invalid byte why) good on sure bit waits valid = absurd (valid byte why refl)
        by order good on sure bit waits valid = grind (arith, on, waits)

    away_so : IsAwayCode a.code (a.status % 32) → w.is_mounted ≡ false
    away_so x = grind (arith, gone_off, low)

  pub step_says : (brings a ≡ false → IsAsWas v w) → Says v w a
  step_says stays = by (text_reads h units e d)
    where
      by : ((ends_formality d.code ≡ true) × Reads a d.code d.status)
          ⊎ ((ends_formality d.code ≡ false)
          × (text_with h units e d ≡ end_with_body e.body e d (unit_found units e.unit) h) × Reads a e.code d.status)
          → Says v w a
      by (inl x) = record {
        online = λ says. absurd (formal_online d.code (a.status / 256 % 2) x.0
            (subst (λ n. IsOnlineCode n (a.status / 256 % 2)) x.1.code (online_parts a says).1));
        away = λ says. absurd (formal_away d.code (a.status % 32) x.0
            (subst (λ n. IsAwayCode n (a.status % 32)) x.1.code (away_parts a says)));
        stays = stays;
      }
      by (inr x) = record {
        online = on_so x.0 x.2;
        away = λ says. away_so x.0 x.2 (away_parts a says);
        stays = stays;
      }
