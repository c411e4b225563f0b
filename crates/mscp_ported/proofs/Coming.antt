-- The ends that come for a host by a message or by a step.
use Rattle.mscp_ported.proofs.Common.{Block, Choice, Command, Connection, End, Err, Finishes, First, Holdings, IsValid, KeepsPromise, List, Made, NotBegun, Ok, Option, Port, Report, Result, Second, SendFault, Sent, Settings, [], after_message, answer_to_message, ap, append-nil, append_assoc, arith, balance_of, come, command_of, credits_of, drop, drop-append_seam, end_brought, held_unless, history, length, name_on, of, option_to_list, outstanding_of, refusal, sent_unless, subst, take-length, untaken, waiting_by, ℕ, ◌++◌, ◌+◌, ◌∙◌, ◌≡◌, ◌≤◌}
use Rattle.mscp_ported.proofs.Said.{served_name}
use Rattle.mscp_controller.specs.declared.entry.Sent.TheVariants as sents

-- the ends of the host's connection
abbrev pub ends_of : {K : Type 0} → Holdings K → List End
ends_of h = of First h.untaken

-- those that came
pub come_so : {K : Type 0} (old new : Port K) (xs : List End)
    → ends_of new.controller ≡ ends_of old.controller ++ xs → come old new ≡ xs
come_so old new xs e = ap (drop (length (ends_of old.controller))) e ∙ drop-append_seam (ends_of old.controller) xs

-- ---- a message

-- a message brings none, or some, behind those that are there; and one that is queued or refused brings none
pub record Brings {K : Type 0} (h new : Holdings K) (answer : Result Sent SendFault) : Type 0 where
  pub ends : List End
  pub all : ends_of new ≡ ends_of h ++ ends
  pub queued : (reference : ℕ) → answer ≡ Ok (sents.Queued reference) → ends_of new ≡ ends_of h
  pub refused : (fault : SendFault) → answer ≡ Err fault → new ≡ h

pub brings : {K : Type 0} (h : Holdings K) (b : List ℕ)
    → Brings h (after_message First h b) (answer_to_message First h b)
brings {K} h b = by (refusal (balance_of First h) (outstanding_of First h) b)
  where
    c : Command
    c = command_of b

    by : (o : Option SendFault) → Brings h (held_unless First h (command_of b) o) (sent_unless First h (command_of b) o)
    by o = grind (arith, append-nil, append_assoc)

-- ---- a step

-- the end of the command that is served comes by its connection
abbrev pub brought_for : Connection → Option End → List End
brought_for First ended = option_to_list ended
brought_for Second ended = []

pub steps_bring : {K : Type 0} (picks : List Choice → ℕ → Type 0) (via : Connection) (reference : ℕ) (block : Block)
    (old new : Holdings K) (result : Result Report NotBegun)
    → Finishes picks (name_on via reference) block old result new
    → ends_of new ≡ ends_of old ++ brought_for via (end_brought result)
steps_bring picks via reference block old new result f = grind (arith, append-nil, served_name)

-- ---- how many

pub few_ends : {K : Type 0} (picks : List Choice → ℕ → Type 0) (c : Settings) (made : List Made) (h : Holdings K)
    → IsValid c → KeepsPromise picks c made h → length (ends_of h) ≤ 64
few_ends picks c made h valid k =
    let t = history made in
    let whole : length (waiting_by First t) + length (untaken c First t) ≤ credits_of c First =
    subst (λ x. length (waiting_by First x) + length (untaken c First x) ≤ credits_of c First) (take-length t)
    (k.promise.credits (length t) (search arith) First) in
    few (length (ends_of h)) (length (untaken c First t)) (length (waiting_by First t)) c.credits c.second
    (ap length (k.untaken First)) whole valid.few_credits
  where
    few : (n m w c d : ℕ) → n ≡ m → w + m ≤ c → c + d ≤ 64 → n ≤ 64
    few n m w c d e f g = omega (arith, e, f, g)
