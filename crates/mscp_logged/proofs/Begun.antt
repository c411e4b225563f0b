-- A port that was made, over a controller that had answered some calls, and had no command outstanding.
use Rattle.mscp_logged.proofs.Common.{All, Answered, AnsweredCalls, AsksAlways, Call, ControllersKeepThePromise, First, Hardware, Holdings, IsMadeOf, IsValid, List, Made, Outgoing, Picking, Port, PortsTellInOrder, Settings, Some, WriteIp, [], ap, append-nil, asked_before, begins, false, fresh, held, is_dead, map, option_to_list, outstanding_of, said, said_in, since_alive, sym, ℕ, ◌++◌, ◌<◌, ◌∙◌, ◌∷◌, ◌≡◌, ◌≢◌}
use Rattle.mscp_logged.proofs.Seen.{last_is, none_held}

pub record Begun {K : Type 0} (picks : Picking K) : Type 0 where
  pub c : Settings
  pub picker : K
  pub valid : IsValid c
  pub before : List Made
  pub hardware : Hardware
  pub credits : ℕ
  pub controller : Holdings K
  pub start : Port K
  pub was : AnsweredCalls (picks picker) (fresh c picker) before controller
  pub made : IsMadeOf hardware credits controller start
  pub quiet : outstanding_of First controller ≡ []

abbrev pub begun : {K : Type 0} (picks : Picking K) (c : Settings) (picker : K) → IsValid c → (before : List Made)
    (hardware : Hardware) (credits : ℕ) (controller : Holdings K) (start : Port K)
    → AnsweredCalls (picks picker) (fresh c picker) before controller → IsMadeOf hardware credits controller start
    → outstanding_of First controller ≡ [] → Begun picks
begun picks c picker valid before hardware credits controller start was made quiet = record {
  c = c;
  picker = picker;
  valid = valid;
  before = before;
  hardware = hardware;
  credits = credits;
  controller = controller;
  start = start;
  was = was;
  made = made;
  quiet = quiet;
}

-- each controller keeps the promise, and no unit is without blocks
pub record IsKeeping {K : Type 0} {picks : Picking K} (run : Begun picks) : Type 0 where
  pub keep : ControllersKeepThePromise (picks run.picker) run.picker
  pub sizes : All (λ unit. 0 < unit.size) run.c.units

-- ---- what is held

module _ {K : Type 0} {picks : Picking K} (run : Begun picks) (tell : PortsTellInOrder picks) where
  open run use {hardware, credits, controller, start, made}

  -- nothing is where nothing was said
  pub nothing_held : (p : Port K) (calls : List Call) → AsksAlways calls → (a : Answered picks start calls p)
      → said picks start p calls a ≡ [] → held p ≡ []
  nothing_held p calls asks a none =
      let t = (tell hardware credits controller start p calls made asks a).0 in none_held t.0 (held p) (t.1 ∙ none)

  -- what goes out stays the same
  pub same_held : (p : Port K) (call : Call) (calls : List Call) → AsksAlways (call ∷ calls)
      → (a : Answered picks start (call ∷ calls) p) → call ≢ WriteIp → is_dead p.stage ≡ false → (o x : Outgoing)
      → a.0.outgoing ≡ Some o → p.outgoing ≡ Some x → said_in o ≡ said_in x
  same_held p call calls asks a never lives o x was_out is_out =
      let old = (tell hardware credits controller start a.0 calls made (asked_before call calls asks) a.1).0 in
      let now = (tell hardware credits controller start p (call ∷ calls) made asks a).0 in
      last_is old.0 now.0 (said_in o) (said_in x)
      (ap (λ z. old.0 ++ map said_in (option_to_list z)) (sym was_out) ∙ old.1
      ∙ sym (now.1 ∙ since_alive p.stage call _ _ never lives
      ∙ ap (λ z. said picks start a.0 calls a.1 ++ map said_in (begins z p.outgoing)) was_out
      ∙ ap (λ z. said picks start a.0 calls a.1 ++ map said_in (begins (Some o) z)) is_out
      ∙ append-nil (said picks start a.0 calls a.1))
      ∙ ap (λ z. now.0 ++ map said_in (option_to_list z)) is_out)
