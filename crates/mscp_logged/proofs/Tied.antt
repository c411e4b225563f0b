-- What ties each end of a port's log to the command that it answers.
use Rattle.mscp_logged.proofs.Common.{AllByRecursion, Answered, AsksAlways, Bool, Call, End, First, Fits, IsAnswering, IsEnding, IsFollowed, IsHow, IsMade, IsReply, IsSaid, IsStepped, IsWhole, List, Name, None, Ok, Option, Order, Outcome, Outgoing, Picking, Port, ReadsBytes, Record, Settings, Some, TellsFaults, Verdict, Went, aborts_behind, answer_status, ap, arith, asked_before, awaited, command_of, controller_in, drop, ends_of, false, fault_of, find, has_name, inl, inr, is_apart, left_with, num, own_answer, own_end_with, refl, refused_apart, said_fits, sent_by, sent_says, slice_index, steps, subst, sym, true, volume_named, ℕ, ◌%◌, ◌<◌, ◌^◌, ◌∙◌, ◌∷◌, ◌≡◌, ◌⊎◌}
use Rattle.mscp_port.specs.declared.port.OutgoingKind.TheVariants as kinds
use Rattle.mscp_ported.proofs.ByOpcode.{ends_said}
use Rattle.mscp_logged.proofs.Answered.{own_suited}
use Rattle.mscp_logged.proofs.Coded.{own_fits}
use Rattle.mscp_logged.proofs.Faults.{IsToldOf, told_fine}
use Rattle.mscp_logged.proofs.Orderly.{ends_clear, own_clear}
use Rattle.mscp_logged.proofs.Own.{IsOwn, none_left, of_disk, own_is_whole}
use Rattle.mscp_logged.proofs.Passes.{keeps as keeps_waiting, overtakes}
use Rattle.mscp_logged.proofs.Begun.{Begun, IsKeeping}
use Rattle.mscp_logged.proofs.Seen.{reads_before}
use Rattle.mscp_logged.proofs.Suited.{IsKnown, IsSuited, said_suited, says_aborted, status_bits, tells_known}
use Rattle.mscp_logged.proofs.Turns.{IsApartOr}

-- an end is whole, and fits its message; if drives tell what they may (F), by its status and its bytes too
pub record IsEndOf (c : Settings) (F : Type 0) (text message : List ℕ) : Type 0 where
  pub fits : Fits text message
  pub whole : IsWhole text
  pub known : IsKnown c (controller_in text)
  pub suited : F → IsSuited text message

-- ---- an end of the controller's

abbrev ToldIf : Type 0 → Verdict → Record → Type 0
ToldIf F verdict r = F → IsToldOf verdict r

-- ---- whether a command was aborted

no_two : (online : Bool) (o : Order) → answer_status online o % 32 ≡ 2 → ⊥
no_two online o e = grind (arith, e)

reply_two : (e : End) → IsReply e → e.status % 32 ≡ 2 → ⊥
reply_two e x two = by (fault_of x.settings (command_of x.text)) refl
    (ap (λ (y : End). y.status % 32) (sym x.is) ∙ two)
  where
    by : (o : Option ℕ) → fault_of x.settings (command_of x.text) ≡ o
        → (own_end_with x.settings x.online x.figure (command_of x.text) o).status % 32 ≡ 2 → ⊥
    by None is h = no_two x.online (command_of x.text).order h
    by (Some status) is h = elim (refused_apart x.settings (command_of x.text).unit status (command_of x.text).order
        (sent_by First x.text) (sent_says First x.text) is) [
          | inl k ↦ search (arith, sym k ∙ h)
          | inr k ↦ search (arith, sym k ∙ h)
        ]

stepped_two : (e : End) → IsStepped IsToldOf e → e.status % 32 ≡ 2 → ⊥
stepped_two e x two = grind arith

-- drives tell what they may
said_as : {K : Type 0} (c : Settings) (F : Type 0) (old : Port K) (aw : List (List ℕ)) (text t : List ℕ) → F
    → IsSaid c (ToldIf F) old aw text t → IsSaid c IsToldOf old aw text t
said_as c F old aw text t f s = record {
  end = s.end;
  decided = s.decided;
  first = s.first;
  shaped = s.shaped;
  fits = record {
    unit = s.fits.unit;
    code = s.fits.code;
    about = s.fits.about;
    polled = s.fits.polled;
    same = s.fits.same;
    made = by s.fits.made;
  };
  is = s.is;
  named = s.named;
  only = s.only;
  followed = followed s.followed;
}
  where
    followed : {e : End} {es : List End} → IsFollowed (ToldIf F) aw e es → IsFollowed IsToldOf aw e es
    followed (inl x) = inl x
    followed (inr (inl x)) = grind arith
    followed (inr (inr x)) = inr (inr x)

    by : IsMade c (ToldIf F) (left_with s.end s.decided) t → IsMade c IsToldOf (left_with s.end s.decided) t
    by (inl x) = inl x
    by (inr (inl x)) = inr (inl x)
    by (inr (inr x)) = grind arith

pub faults_before : (call : Call) (calls : List Call) → TellsFaults (call ∷ calls) → TellsFaults calls
faults_before call calls h = grind arith

-- what is asked of calls
abbrev pub IsFineUntil : Type 0 → List Call → Type 0
IsFineUntil F calls = AsksAlways calls × (F → TellsFaults calls)

pub fine_before : (F : Type 0) (call : Call) (calls : List Call) → IsFineUntil F (call ∷ calls) → IsFineUntil F calls
fine_before F call calls fine = (asked_before call calls fine.0, λ f. faults_before call calls (fine.1 f))

module _ {K : Type 0} {picks : Picking K} (run : Begun picks) (keeping : IsKeeping run) (F : Type 0) where
  open run use {c, picker, valid, before, hardware, credits, controller, start, was, made, quiet}
  open keeping use {keep, sizes}

  told_so : (p : Port K) (outcome : Outcome) (done : Unit) (calls : List Call)
      → IsFineUntil F (Went outcome (Ok done) ∷ calls)
      → (a : Answered picks start (Went outcome (Ok done) ∷ calls) p) → (verdict : Verdict)
      → IsHow a.0 outcome verdict → (name : Name) → a.0.controller.begun ≡ Some name → (r : Record)
      → find (has_name name) a.0.controller.waiting ≡ Some r → ToldIf F verdict r
  told_so p outcome done calls fine a verdict how name was r found f =
      told_fine a.0 outcome (fine.1 f).0
      (steps picks hardware credits controller start made a.0 calls
      (asked_before (Went outcome (Ok done)) calls fine.0) a.1).begun name was r found verdict how

  said_of : (p : Port K) (call : Call) (calls : List Call) → ReadsBytes (call ∷ calls)
      → IsFineUntil F (call ∷ calls) → (a : Answered picks start (call ∷ calls) p)
      → (q : IsEnding (awaited picks start a.0 calls a.1) call a.0 p)
      → IsSaid c (ToldIf F) a.0 (awaited picks start a.0 calls a.1) q.out.bytes.items q.message
  said_of p call calls reads fine a q =
      ends_said picks c picker keep valid sizes before hardware credits controller start was made quiet
      (ToldIf F) (IsFineUntil F) (fine_before F) told_so p call calls q.out.bytes.items q.message reads fine a q.ended
      q.only

  pub end_of : (p : Port K) (call : Call) (calls : List Call) → ReadsBytes (call ∷ calls)
      → IsFineUntil F (call ∷ calls) → (a : Answered picks start (call ∷ calls) p)
      → (q : IsEnding (awaited picks start a.0 calls a.1) call a.0 p) → IsEndOf c F q.out.bytes.items q.message
  end_of p call calls reads fine a q =
      let aw = awaited picks start a.0 calls a.1 in
      let text = q.out.bytes.items in
      let s = said_of p call calls reads fine a q in
      record {
        fits = said_fits a.0 aw text q.message s;
        whole = q.whole;
        known = tells_known c (ToldIf F) a.0 aw text q.message s;
        suited = λ f. said_suited c a.0 aw text q.message (said_as c F a.0 aw text q.message f s);
      }

  -- if it says that its command was aborted, the message of an ABORT stands behind that of the command
  pub late_of : (p : Port K) (call : Call) (calls : List Call) → ReadsBytes (call ∷ calls)
      → IsFineUntil F (call ∷ calls) → (a : Answered picks start (call ∷ calls) p)
      → (q : IsEnding (awaited picks start a.0 calls a.1) call a.0 p) → F → num q.out.bytes.items 10 2 % 32 ≡ 2
      → (k : ℕ) × (aborts_behind (num q.out.bytes.items 0 4) k (awaited picks start a.0 calls a.1) ≡ true)
  late_of p call calls reads fine a q f aborted = by s.followed
    where
      aw : List (List ℕ)
      aw = awaited picks start a.0 calls a.1

      s : IsSaid c IsToldOf a.0 (awaited picks start a.0 calls a.1) q.out.bytes.items q.message
      s = said_as c F a.0 (awaited picks start a.0 calls a.1) q.out.bytes.items q.message f
          (said_of p call calls reads fine a q)

      two : s.end.status % 32 ≡ 2
      two = says_aborted c IsToldOf a.0 (awaited picks start a.0 calls a.1) q.out.bytes.items q.message s aborted

      by : IsFollowed IsToldOf (awaited picks start a.0 calls a.1) s.end (drop 1 (ends_of a.0.controller))
          → (k : ℕ) × (aborts_behind (num q.out.bytes.items 0 4) k (awaited picks start a.0 calls a.1) ≡ true)
      by (inl x) = absurd (reply_two s.end x two)
      by (inr (inl x)) = absurd (stepped_two s.end x two)
      by (inr (inr behind)) = let b = behind q.message s.only in (
        b.number,
        ap (λ n. aborts_behind n b.number (awaited picks start a.0 calls a.1)) s.named ∙ b.message,
      )

  -- it passes no message that it has to wait for, if it may not come at once
  pub turn_of : (p : Port K) (call : Call) (calls : List Call) → ReadsBytes (call ∷ calls)
      → IsFineUntil F (call ∷ calls) → (a : Answered picks start (call ∷ calls) p)
      → (q : IsEnding (awaited picks start a.0 calls a.1) call a.0 p) → Unit {0} → IsApartOr q.out.bytes.items
      (overtakes (num q.out.bytes.items 0 4) (awaited picks start a.0 calls a.1) ≡ false)
  turn_of p call calls reads fine a q g = by (ends_clear run keeping p call calls q.out.bytes.items reads a q.ended
      s.decided s.first)
    where
      s : IsSaid c (ToldIf F) a.0 (awaited picks start a.0 calls a.1) q.out.bytes.items q.message
      s = said_of p call calls reads fine a q

      by : (is_apart (s.decided.status % 32) ≡ true)
          ⊎ (overtakes (num q.out.bytes.items 0 4) (awaited picks start a.0 calls a.1) ≡ false)
          → IsApartOr q.out.bytes.items
          (overtakes (num q.out.bytes.items 0 4) (awaited picks start a.0 calls a.1) ≡ false)
      by (inl apart) = inl (subst (λ n. is_apart n ≡ true) (status_bits c (ToldIf F) a.0
          (awaited picks start a.0 calls a.1) q.out.bytes.items q.message s) apart)
      by (inr free) = inr free

  -- nor does one of the port's own
  pub own_turn : (p : Port K) (call : Call) (calls : List Call) → ReadsBytes (call ∷ calls)
      → IsFineUntil F (call ∷ calls) → (a : Answered picks start (call ∷ calls) p) → (q : IsAnswering call a.0 p)
      → IsOwn a.0 q.message q.out → q.out.kind ≡ kinds.End → Unit {0} → IsApartOr q.out.bytes.items
      (AllByRecursion (λ u. keeps_waiting q.message u ≡ false) (awaited picks start a.0 calls a.1))
  own_turn p call calls reads fine a q own kind g = rw own.own.2 (own_clear run keeping a.0 calls
      (reads_before call calls reads) a.1 (none_left picks hardware credits controller start made p call calls a q)
      q.message own.own.0 (ap (λ f. own_answer f (volume_named a.0 q.message) q.message)
      (sym (of_disk a.0 q.message q.out own kind)) ∙ own.own.1))

-- ---- one of the port's own

pub own_end_of : {K : Type 0} (c : Settings) (F : Type 0) (old : Port K) (text : List ℕ) (o : Outgoing)
    → ((i : ℕ) → slice_index text i < 2 ^ 8) → IsOwn old text o → o.kind ≡ kinds.End → IsEndOf c F o.bytes.items text
own_end_of c F old text o small own kind =
    let x = own_suited c (volume_named old text) text own.long own.own.0
    (ap (λ f. own_answer f (volume_named old text) text) (sym (of_disk old text o own kind)) ∙ own.own.1) in
    record {
      fits = own_fits old text o small own kind;
      whole = own_is_whole old text o own kind;
      known = subst (λ b. IsKnown c (controller_in b)) (sym own.own.2) x.1;
      suited = λ f. subst (λ b. IsSuited b text) (sym own.own.2) x.0;
    }

-- which says of no command that it was aborted
pub never_aborted : {K : Type 0} (c : Settings) (old : Port K) (text : List ℕ) (o : Outgoing) → IsOwn old text o
    → o.kind ≡ kinds.End → num o.bytes.items 10 2 % 32 ≡ 2 → ⊥
never_aborted c old text o own kind two = grind arith
