-- What was told of units is borne out over a whole list of calls.
use Rattle.mscp_logged.proofs.Common.{end_of, Answered, AsksAlways, Bool, Call, First, History, List, None, Option, Outgoing, Picking, Port, PortsEndWhatTheyTook, PortsTellInOrder, ReadsBytes, Said, Some, TellsFaults, [], accepted_by, ap, append-nil, append_assoc, arith, came, cond, end_said, ends_begun, ends_in, ends_of, ends_said, false, flat_map, held, is_foreign, leaves, logged, map, message_of, messages_by, refl, sym, told, true, unit_found, volume_found, zipped, ℕ, ◌++◌, ◌∙◌, ◌∷◌, ◌≡◌}
use Rattle.mscp_ported.proofs.Ending.{Ends}
use Rattle.mscp_logged.proofs.Recalled.{Recalled, ends_recalled, messages_recalled, nothing_recalled, recalled_as, volumes_recalled}
use Rattle.mscp_logged.proofs.Begun.{Begun, IsKeeping, nothing_held, same_held}
use Rattle.mscp_logged.proofs.Walking.{IsCall, IsForgotten, log_is as call_log, walk}
use Rattle.mscp_logged.proofs.Speaking.{known_goes, placed_goes}
use Rattle.mscp_logged.proofs.Texts.{out_texts, texts_none, to_come, waiting}
use Rattle.mscp_logged.proofs.Away.{told_away}
use Rattle.mscp_logged.proofs.Bringing.{Brings, brings, whole}
use Rattle.mscp_logged.proofs.Tied.{faults_before}

none_gone : {X : Type 0} (xs ys : List X) → [] ≡ xs ++ ys → ys ≡ []
none_gone [] ys e = sym e
none_gone (x ∷ xs) ys e = search (arith, e)

module _ {K : Type 0} {picks : Picking K} (run : Begun picks) (keeping : IsKeeping run)
    (ends : PortsEndWhatTheyTook picks run.picker) (tell : PortsTellInOrder picks) (F : Type 0) where
  open run use {c, valid, before, hardware, credits, controller, start, was, made, quiet}

  abbrev pub State : (p : Port K) (calls : List Call) → Answered picks start calls p → Type 0
  State p calls a = Recalled F c.units p.volumes (logged picks start p calls a) (to_come hardware c.units p)

  -- all was forgotten
  forgotten : (p : Port K) (calls : List Call) → AsksAlways calls → (a : Answered picks start calls p)
      → IsForgotten picks start p calls a → State p calls a
  forgotten p calls asks a none = nothing_recalled F c.units p.volumes (logged picks start p calls a)
      (to_come hardware c.units p) none.logged (ap (λ xs. xs ++ waiting hardware c.units p) (out p.outgoing refl)
      ∙ texts_none hardware c.units (ends_of p.controller) p.decided.items
      (none_gone k.gone (zipped (ends_of p.controller) p.decided.items) (sym none.came ∙ k.all)))
    where
      k : Ends hardware c.units p (came picks start p calls a) (ends_said picks start p calls a)
      k = (whole run keeping F p calls a).ends

      nothing : held p ≡ []
      nothing = nothing_held run tell p calls asks a none.said

      out : (o : Option Outgoing) → p.outgoing ≡ o → out_texts p.outgoing ≡ []
      out o e = grind (arith, nothing)

  module _ (p : Port K) (call : Call) (calls : List Call) (a : Answered picks start (call ∷ calls) p)
      (is_call : IsCall picks start p call calls a) where
    abbrev h : History
    h = logged picks start a.0 calls a.1

    abbrev old : List (List ℕ)
    old = waiting hardware c.units a.0

    abbrev now : List (List ℕ)
    now = waiting hardware c.units p

    -- ---- what goes out

    goes : (more : List (List ℕ)) → Brings hardware c.units F a.0 p more → State a.0 calls a.1
        → State p (call ∷ calls) a
    goes more is s = by a.0.outgoing p.outgoing refl refl is.comes moved
      where
        ms : History
        ms = messages_by call a.0

        messages : Recalled F c.units a.0.volumes (h ++ ms) (to_come hardware c.units a.0)
        messages = by (is_foreign a.0.task)
          where
            by : (b : Bool) → Recalled F c.units a.0.volumes (h ++ cond b [] (map message_of (accepted_by call a.0)))
                (to_come hardware c.units a.0)
            by true = recalled_as F c.units a.0.volumes h (h ++ []) _ _ (append-nil h) refl s
            by false = grind (arith, messages_recalled)

        moved : Recalled F c.units p.volumes (h ++ ms) (to_come hardware c.units a.0 ++ more)
        moved = volumes_recalled F c.units a.0.volumes p.volumes (h ++ ms) (to_come hardware c.units a.0)
            (to_come hardware c.units a.0 ++ more) (λ u. known_goes u (unit_found c.units u)
            (volume_found c.units a.0.volumes u) (volume_found c.units p.volumes u)
            (told (h ++ ms) First u).identity (to_come hardware c.units a.0) more (is.told u))
            (λ f u. placed_goes u (volume_found c.units a.0.volumes u) (volume_found c.units p.volumes u)
            (told_away (told (h ++ ms) First u).state) (to_come hardware c.units a.0) more (is.placed f u)) messages

        log_is : (x y : Option Outgoing) → a.0.outgoing ≡ x → p.outgoing ≡ y
            → logged picks start p (call ∷ calls) a ≡ (h ++ ms) ++ flat_map ends_in (leaves x y)
        log_is x y was_out is_out = grind (arith, call_log is_call ms refl)

        to_log : (x y : Option Outgoing) → a.0.outgoing ≡ x → p.outgoing ≡ y
            → Recalled F c.units p.volumes ((h ++ ms) ++ flat_map ends_in (leaves x y)) (out_texts y ++ now)
            → State p (call ∷ calls) a
        to_log x y was_out is_out = grind (arith, recalled_as, ms, log_is)

        still : (x y : Option Outgoing) (qs : List (List ℕ)) → flat_map ends_in (leaves x y) ≡ []
            → out_texts y ++ now ≡ qs → Recalled F c.units p.volumes (h ++ ms) qs
            → Recalled F c.units p.volumes ((h ++ ms) ++ flat_map ends_in (leaves x y)) (out_texts y ++ now)
        still x y qs none e = grind (arith, recalled_as, ms, append-nil)

        behind : (o : Outgoing) (y : Option Outgoing) → a.0.outgoing ≡ Some o → p.outgoing ≡ y
            → ends_begun a.0.outgoing p.outgoing ++ now ≡ old ++ more → now ≡ old ++ more
        behind o y was_out is_out comes = ap (λ z. ends_begun z p.outgoing ++ now) (sym was_out) ∙ comes

        by : (x y : Option Outgoing) → a.0.outgoing ≡ x → p.outgoing ≡ y
            → ends_begun a.0.outgoing p.outgoing ++ now ≡ old ++ more
            → Recalled F c.units p.volumes (h ++ ms) (to_come hardware c.units a.0 ++ more) → State p (call ∷ calls) a
        by None y was_out is_out comes r = to_log None y was_out is_out (still None y _ refl
            (out_is y refl ∙ ap (λ z. ends_begun None z ++ now) (sym is_out)
            ∙ ap (λ z. ends_begun z p.outgoing ++ now) (sym was_out) ∙ comes
            ∙ ap (λ z. (out_texts z ++ old) ++ more) (sym was_out)) r)
          where
            out_is : (z : Option Outgoing) → y ≡ z → out_texts y ++ now ≡ ends_begun None y ++ now
            out_is z e = grind arith
        by (Some o) (Some x) was_out is_out comes r =
            to_log (Some o) (Some x) was_out is_out (still (Some o) (Some x) _ refl
            (ap (λ (z : Said). end_said z.kind z.text ++ now)
            (sym (same_held run tell p call calls is_call.asks a is_call.never is_call.lives o x was_out is_out))
            ∙ ap (λ z. out_texts (Some o) ++ z) (behind o (Some x) was_out is_out comes)
            ∙ sym (append_assoc (out_texts (Some o)) old more)
            ∙ ap (λ z. (out_texts z ++ old) ++ more) (sym was_out)) r)
        by (Some o) None was_out is_out comes r = to_log (Some o) None was_out is_out
            (recalled_as F c.units p.volumes ((h ++ ms) ++ map end_of (end_said o.kind o.bytes.items)) _ now now
            (ap (λ z. (h ++ ms) ++ z) (append-nil (map end_of (end_said o.kind o.bytes.items)))) refl
            (ends_recalled F c.units p.volumes (h ++ ms) (end_said o.kind o.bytes.items) now
            (recalled_as F c.units p.volumes (h ++ ms) (h ++ ms) _ _ refl
            (ap (λ z. out_texts (Some o) ++ z) (behind o None was_out is_out comes)
            ∙ sym (append_assoc (out_texts (Some o)) old more)
            ∙ ap (λ z. (out_texts z ++ old) ++ more) (sym was_out)) r)))

  pub recalled : (p : Port K) (calls : List Call) → AsksAlways calls → ReadsBytes calls → (F → TellsFaults calls)
      → (a : Answered picks start calls p) → State p calls a
  recalled p calls asks reads fine a = walk run ends (λ p calls a. (F → TellsFaults calls) → State p calls a)
      (λ p calls asks a none fine. forgotten p calls asks a none)
      (λ p call calls a is so_far fine. let m = brings run keeping F p call calls is.asks is.reads fine a is.never
      is.lives is.deals in
      goes p call calls a is m.0 m.1 (so_far (λ f. faults_before call calls (fine f)))) p calls asks reads a fine
