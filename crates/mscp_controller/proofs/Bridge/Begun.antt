-- What is begun when one more call comes.
use Rattle.mscp_controller.proofs.Bridge.Basics.{◌≡◌, ℕ, ◌<◌, ◌≤◌, Bool, true, false, List, [], ◌∷◌, ◌++◌, take, drop, length, refl, ap, sym, ◌∙◌, subst, append_assoc, append-nil, arith, if◌then◌else◌, is_some, nat_eq, Option, Some, None, and_parts, true≢false, drop-append-le, drop_all, get_or_append_left, get_or_at, length-append, length_push, take-append-drop, take-append-le, take_at, list_any-append, flat_map-append, Upcoming, Choice, Name, Settings, Trace, is_waiting, name, waiting, IsLegal, IsPick, Call, HoldsToBegun, IsBegunSince, IsRightCall, NothingBegun, StartsChosen, call_at, foretold, history, moments_of, steps, upcoming_in, upcoming_name, Begin, Holdings, Apart, one_waits, is_waiting_before, cut, waits_below, Agrees}

-- ---- one more call
pub history_more : (calls : List Call) (call : Call) → history (calls ++ call ∷ []) ≡ history calls ++ moments_of call
history_more calls call = search (arith, flat_map-append moments_of calls (call ∷ []), append-nil (moments_of call))

front_same : (calls : List Call) (call : Call) (j : ℕ) → j < length calls → take j (calls ++ call ∷ []) ≡ take j calls
front_same calls call j l = take-append-le j calls (call ∷ []) (omega (arith, l))

call_last : (calls : List Call) (call : Call) → call_at (calls ++ call ∷ []) (length calls) ≡ call
call_last calls call = get_or_at calls call [] (Begin None) (length calls) refl

-- the history before a call is no longer than the whole
shorter : (calls : List Call) (j : ℕ) → length (history (take j calls)) ≤ length (history calls)
shorter calls j =
    let cut : history calls ≡ history (take j calls) ++ history (drop j calls) =
    ap history (sym (take-append-drop j calls)) ∙ flat_map-append moments_of (take j calls) (drop j calls) in
    omega (arith, ap length cut, length-append (history (take j calls)) (history (drop j calls)))

-- what waits waited before, if it had come
-- what the last call began
pub record Last (calls : List Call) (call : Call) (up : Upcoming) (y : ℕ) : Type 0 where
  pub told : upcoming_in call ≡ Some up
  pub own : up ≡ foretold (history calls) y
  pub waited : is_waiting (history calls) y ≡ true

-- either is known of what is begun after one more call
pub either : (X : Type 0) (calls : List Call) (call : Call) (up : Upcoming) (y j : ℕ) → (IsBegunSince calls up y j
    → steps call ≡ false → X) → (Last calls call up y → X) → IsBegunSince (calls ++ call ∷ []) up y j → X
either o calls call up y j before last b =
    grind (
      arith,
      length-append,
      front_same,
      drop-append-le,
      list_any-append,
      shorter,
      history_more,
      waits_below,
      take_at,
      call_last,
      get_or_append_left,
      append-nil,
      and_parts,
      is_waiting_before,
      length_push,
      append_assoc,
    )

-- what was begun is begun after a call that is no step, where it still waits
pub begun_more : (calls : List Call) (call : Call) (up : Upcoming) (y j : ℕ) → IsBegunSince calls up y j
    → steps call ≡ false → is_waiting (history (calls ++ call ∷ [])) y ≡ true → IsBegunSince (calls ++ call ∷ []) up y j
begun_more calls call up y j b n w =
    search (arith, length-append, list_any-append, front_same, drop-append-le, get_or_append_left)

-- ---- what is known of what is begun
-- what may be picked of a view, after the calls so far
abbrev pub PicksThen : Type 1
PicksThen = List Call → List Choice → ℕ → Type 0

-- a picker may pick the command of this name after the calls so far: what it may pick depends on them
abbrev pub IsPickThen : Settings → (PicksThen) → List Call → Name → Type 0
IsPickThen c picks so_far = IsPick c (picks so_far) (history so_far)

pub record Begun (c : Settings) (picks : PicksThen) (calls : List Call) (n : Name) (up : Upcoming)
    (y j : ℕ) : Type 0 where
  pub is : IsBegunSince calls up y j
  pub now : up ≡ foretold (history calls) y
  pub own : upcoming_name up ≡ n
  pub only : (up' : Upcoming) (y' j' : ℕ) → IsBegunSince calls up' y' j' → (y' ≡ y) × (up' ≡ up)
  pub chosen : nat_eq up.done 0 ≡ true → IsPickThen c picks (take j calls) n

-- what is held to be begun is what is begun
abbrev pub Holds : Settings → (PicksThen) → List Call → Option Name → Type 0
Holds c picks calls None = NothingBegun calls
Holds c picks calls (Some n) = (up : Upcoming) × (y : ℕ) × (j : ℕ) × Begun c picks calls n up y j

-- its name is that of the history
pub name_begun : {c : Settings} {picks : PicksThen} {calls : List Call} {n : Name} {up : Upcoming}
    {y j : ℕ} → Begun c picks calls n up y j → name (history calls) y ≡ n
name_begun b = ap upcoming_name (sym b.now) ∙ b.own

untold : (call : Call) (up : Upcoming) → upcoming_in call ≡ None → upcoming_in call ≡ Some up → ⊥
untold call up n e = true≢false (ap is_some (sym e ∙ n))

-- a call that is no step, and tells nothing
pub holds_on : (c : Settings) (picks : PicksThen) (calls : List Call) (call : Call) (o o' : Option Name)
    → steps call ≡ false → upcoming_in call ≡ None
    → ((y : ℕ) → is_waiting (history calls) y ≡ true → foretold (history (calls ++ call ∷ [])) y
    ≡ foretold (history calls) y) → ((n : Name) (y : ℕ) → o ≡ Some n → is_waiting (history calls) y
    ≡ true → name (history calls) y ≡ n → o' ≡ (if is_waiting (history (calls ++ call ∷ [])) y then Some n else None))
    → (o ≡ None → o' ≡ None) → Holds c picks calls o → Holds c picks (calls ++ call ∷ []) o'
holds_on c picks calls call None o' n q stay link none h =
    let calls' = calls ++ call ∷ [] in
    let nothing : NothingBegun calls' = λ up y j b.
    either ⊥ calls call up y j (λ k s. h up y j k) (λ l. untold call up q l.told) b in
    subst (Holds c picks calls') (sym (none refl)) nothing
holds_on c picks calls call (Some n) o' s q stay link none h =
    let calls' = calls ++ call ∷ [] in
    let t' = history calls' in
    let up = h.0 in
    let y = h.1 in
    let j = h.2 in
    let b = h.3 in
    let both : (w : Bool) → is_waiting t' y ≡ w → Holds c picks calls' (if w then Some n else None) =
    λ w. elim w as (λ w. is_waiting t' y ≡ w → Holds c picks calls' (if w then Some n else None)) [
      | true ↦ λ e.
          let on : Begun c picks calls' n up y j = record {
            is = begun_more calls call up y j b.is s e;
            now = b.now ∙ sym (stay y b.is.waits);
            own = b.own;
            only = λ up' y' j' k. either ((y' ≡ y) × (up' ≡ up)) calls call up' y' j' (λ m z. b.only up' y' j' m)
                (λ l. absurd (untold call up' q l.told)) k;
            chosen = grind (arith, front_same, calls, j, b);
          } in
          (up, y, j, on)
      | false ↦ λ e up' y' j' k.
          either ⊥ calls call up' y' j' (λ m z. let one = b.only up' y' j' m in
          true≢false (sym k.waits ∙ (ap (is_waiting t') one.0 ∙ e))) (λ l. untold call up' q l.told) k
    ] in
    subst (Holds c picks calls') (sym (link n y refl b.is.waits (name_begun b))) (both (is_waiting t' y) refl)

-- a step
pub nothing_stepped : (calls : List Call) (call : Call) → steps call ≡ true → upcoming_in call ≡ None
    → NothingBegun (calls ++ call ∷ [])
nothing_stepped calls call s q up y j b = either ⊥ calls call up y j (λ k z. true≢false (sym s ∙ z))
    (λ l. untold call up q l.told) b

-- a begin that tells of y
last_same : (calls : List Call) (up up' : Upcoming) (y y' : ℕ) → Apart (history calls) (waiting (history calls))
    → is_waiting (history calls) y ≡ true → up ≡ foretold (history calls) y → Last calls (Begin (Some up)) up' y'
    → (y' ≡ y) × (up' ≡ up)
last_same calls up up' y y' apart w e l = grind (arith, one_waits)

-- a begin is no moment
pub begin_same : (calls : List Call) (upcoming : Option Upcoming)
    → history (calls ++ Begin upcoming ∷ []) ≡ history calls
begin_same calls upcoming = history_more calls (Begin upcoming) ∙ append-nil (history calls)

module _ (c : Settings) (picks : PicksThen) (calls : List Call) (n : Name) (up : Upcoming) (y : ℕ) where
  -- it begins y where nothing is begun
  pub holds_new : Apart (history calls) (waiting (history calls)) → NothingBegun calls
      → is_waiting (history calls) y ≡ true → up ≡ foretold (history calls) y → upcoming_name up ≡ n → (nat_eq up.done 0
      ≡ true → IsPickThen c picks calls n) → Holds c picks (calls ++ Begin (Some up) ∷ []) (Some n)
  holds_new apart none w e own p =
      let call = Begin (Some up) in
      let calls' = calls ++ call ∷ [] in
      let j = length calls in
      let same = begin_same calls (Some up) in
      let front : take j calls' ≡ calls = take_at calls (call ∷ []) j refl in
      let is : IsBegunSince calls' up y j = grind (
        arith,
        length-append,
        call_last,
        steps,
        drop_all,
        call,
        calls,
        j,
        same,
        front,
      ) in
      let all : Begun c picks calls' n up y j = record {
        is = is;
        now = e ∙ ap (λ u. foretold u y) (sym same);
        own = own;
        only = λ up' y' j' k. either ((y' ≡ y) × (up' ≡ up)) calls call up' y' j' (λ m z. absurd (none up' y' j' m))
            (last_same calls up up' y y' apart w e) k;
        chosen = λ d. subst (λ cs. IsPickThen c picks cs n) (sym front) (p d);
      } in
      (up, y, j, all)

  -- and tells of it again where it is begun
  pub holds_again : (j : ℕ) → Apart (history calls) (waiting (history calls))
      → Begun c picks calls n up y j → Holds c picks (calls ++ Begin (Some up) ∷ []) (Some n)
  holds_again j apart b =
      let call = Begin (Some up) in
      let same = begin_same calls (Some up) in
      let all : Begun c picks (calls ++ call ∷ []) n up y j = record {
        is = begun_more calls call up y j b.is refl (subst (λ u. is_waiting u y ≡ true) (sym same) b.is.waits);
        now = b.now ∙ ap (λ u. foretold u y) (sym same);
        own = b.own;
        only = λ up' y' j' k. either ((y' ≡ y) × (up' ≡ up)) calls call up' y' j' (λ m z. b.only up' y' j' m)
            (last_same calls up up' y y' apart b.is.waits b.now) k;
        chosen =
            λ d. subst (λ cs. IsPickThen c picks cs n) (sym (front_same calls call j b.is.inside)) (b.chosen d);
      } in
      (up, y, j, all)

-- a begin that finds nothing
pub nothing_told : (calls : List Call) → waiting (history calls) ≡ [] → NothingBegun calls
    → NothingBegun (calls ++ Begin None ∷ [])
nothing_told calls e none up y j b = either ⊥ calls (Begin None) up y j (λ k z. none up y j k)
    (λ l. untold (Begin None) up refl l.told) b

-- ---- a call
-- what is known of a call, and of what is then held
pub record Turned {K : Type 0} (c : Settings) (picks : PicksThen) (calls : List Call) (call : Call)
    (h : Holdings K) : Type 0 where
  pub legal : IsLegal c (history (calls ++ call ∷ []))
  pub agrees : Agrees c (history (calls ++ call ∷ [])) h
  pub right : IsRightCall c calls call
  pub begun : HoldsToBegun calls call
  pub picked : StartsChosen (IsPickThen c picks) calls call
  pub holds : Holds c picks (calls ++ call ∷ []) h.begun

-- what is held to be begun, and that it is
abbrev pub Held : {K : Type 0} → Settings → (PicksThen) → List Call → Holdings K → Option Name → Type 0
Held c picks calls h o = (h.begun ≡ o) × Holds c picks calls o

-- something waits that is begun
pub none_waits : (t : Trace) (y : ℕ) → waiting t ≡ [] → is_waiting t y ≡ true → ⊥
none_waits t y e w = let k = cut t y (waits_below t y w) w in
    absurd (omega (arith, ap length (sym e ∙ k.2.is), length-append k.0 (y ∷ k.1)))
