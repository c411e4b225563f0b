-- What holds of a port where all was forgotten, and behind whatever a call dealt with, holds behind each call.
use Rattle.mscp_logged.proofs.Common.{Answered, AsksAlways, Bool, Call, Deals, First, History, HostIsRight, IsRight, List, Option, Picking, Port, PortsEndWhatTheyTook, ReadsBytes, WriteIp, [], accepted_by, append_assoc, arith, asked_before, awaited, came, ends_in, ends_said_by, false, flat_map, inl, inr, is_dead, is_message, is_new, leaves, logged, message_of, messages_by, outstanding, refl, said, seen_by, sent_by, since, since_alive, subst, taken_by, true, without_ends, ℕ, ◌++◌, ◌∙◌, ◌∷◌, ◌≡◌, ◌≢◌}
use Rattle.mscp_wire.specs.declared.moment.Moment.TheVariants as moments
use Rattle.mscp_logged.proofs.Begun.{Begun}
use Rattle.mscp_logged.proofs.Seen.{is_reset, no_message, reads_before, since_dead, since_reset}
use Rattle.mscp_logged.proofs.Stated.{each_at, each_front, right_new}

-- nothing is known of what came before
pub record IsForgotten {K : Type 0} (picks : Picking K) (start p : Port K) (calls : List Call)
    (a : Answered picks start calls p) : Type 0 where
  pub said : said picks start p calls a ≡ []
  pub came : came picks start p calls a ≡ []
  pub logged : logged picks start p calls a ≡ []
  pub awaited : awaited picks start p calls a ≡ []

-- a call that forgets nothing
pub record IsCall {K : Type 0} (picks : Picking K) (start p : Port K) (call : Call) (calls : List Call)
    (a : Answered picks start (call ∷ calls) p) : Type 0 where
  pub asks : AsksAlways (call ∷ calls)
  pub reads : ReadsBytes (call ∷ calls)
  pub never : call ≢ WriteIp
  pub lives : is_dead p.stage ≡ false
  pub deals : Deals (awaited picks start a.0 calls a.1) call a.0 p

-- ---- one call

module _ {K : Type 0} {picks : Picking K} {start p : Port K} {call : Call} {calls : List Call}
    {a : Answered picks start (call ∷ calls) p} (is : IsCall picks start p call calls a) where
  abbrev h : History
  h = logged picks start a.0 calls a.1

  abbrev gone : History
  gone = flat_map ends_in (leaves a.0.outgoing p.outgoing)

  pub log_is : (ms : History) → messages_by call a.0 ≡ ms
      → logged picks start p (call ∷ calls) a ≡ (h ++ ms) ++ gone
  log_is ms e = grind (arith, since_alive p.stage call h (seen_by call a.0 p) is.never is.lives, append_assoc)

  pub awaited_is : (xs ys : List (List ℕ)) → ends_said_by call a.0 p ≡ xs → taken_by call a.0 ≡ ys
      → awaited picks start p (call ∷ calls) a ≡ without_ends xs (awaited picks start a.0 calls a.1) ++ ys
  awaited_is xs ys e f = grind (arith, since_alive)

  pub none_by : accepted_by call a.0 ≡ [] → messages_by call a.0 ≡ []
  none_by e = no_message call a.0 (accepted_by call a.0) e

  module _ (limit : Option ℕ) (host : HostIsRight limit (logged picks start p (call ∷ calls) a)) where
    pub host_before : HostIsRight limit h
    host_before = each_front (λ x m. is_message m ≡ true → IsRight limit x m) moments.Reset h (seen_by call a.0 p)
        (subst (λ x. HostIsRight limit x) (since_alive p.stage call _ _ is.never is.lives) host)

    -- the message that comes is new
    pub is_new_now : (t : List ℕ) → messages_by call a.0 ≡ message_of t ∷ []
        → is_new (outstanding h) (sent_by First t) ≡ true
    is_new_now t e = right_new limit h t (each_at (λ x m. is_message m ≡ true → IsRight limit x m) moments.Reset h
        (message_of t) gone (rw (← log_is (message_of t ∷ []) e ∙ append_assoc h (message_of t ∷ []) gone) host) refl)

-- ---- all of them

module _ {K : Type 0} {picks : Picking K} (run : Begun picks) (ends : PortsEndWhatTheyTook picks run.picker) where
  open run use {c, valid, before, hardware, credits, controller, start, was, made, quiet}

  module _ (P : (p : Port K) (calls : List Call) → Answered picks start calls p → Type 0)
      (forgotten : (p : Port K) (calls : List Call) → AsksAlways calls → (a : Answered picks start calls p)
      → IsForgotten picks start p calls a → P p calls a)
      (goes : (p : Port K) (call : Call) (calls : List Call) (a : Answered picks start (call ∷ calls) p)
      → IsCall picks start p call calls a → P a.0 calls a.1 → P p (call ∷ calls) a) where
    pub walk : (p : Port K) (calls : List Call) → AsksAlways calls → ReadsBytes calls
        → (a : Answered picks start calls p) → P p calls a
    walk p [] asks reads a =
        forgotten p [] asks a (record { said = refl; came = refl; logged = refl; awaited = refl })
    walk p (call ∷ calls) asks reads a = elim (is_reset call) [
      | inl reset ↦ nothing (λ X xs ys. since_reset p.stage call xs ys reset)
      | inr never ↦ by (walk a.0 calls (asked_before call calls asks) (reads_before call calls reads) a.1) never
          (is_dead p.stage) refl
    ]
      where
        nothing : ((X : Type 0) (xs ys : List X) → since p.stage call xs ys ≡ []) → P p (call ∷ calls) a
        nothing none = forgotten p (call ∷ calls) asks a
            (record { said = none _ _ _; came = none _ _ _; logged = none _ _ _; awaited = none _ _ _ })

        by : P a.0 calls a.1 → call ≢ WriteIp → (b : Bool) → is_dead p.stage ≡ b → P p (call ∷ calls) a
        by so_far never true dead = nothing (λ X xs ys. since_dead p.stage call xs ys dead)
        by so_far never false lives = goes p call calls a (record {
          asks = asks;
          reads = reads;
          never = never;
          lives = lives;
          deals = (ends c before controller hardware credits start p call calls valid was quiet made reads a never
              lives).1;
        }) so_far
