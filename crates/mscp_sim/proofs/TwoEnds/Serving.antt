-- A step keeps the match of the host of each connection and the controller.
use Rattle.mscp_sim.proofs.Common.{◌≡◌, ℕ, ◌+◌, ◌<◌, Bool, true, false, cond, List, [], ◌∷◌, ◌++◌, map, take, drop, length, refl, ap, ◌∙◌, append-nil, arith, if◌then◌else◌, Option, Some, None, option_to_list, false≢true, map-append, filter-append, Connection, same_connection, End, Block, Report, Drive, Choice, outcome_at, Record, drive_at, no_record, passed_by, record_at, remains, end_given, cut_at, Holdings, Steps, ends_reported, waiting_on, of, Account, Flight, Matches, commands}
use Rattle.mscp_queue.specs.declared.report.Report.TheVariants as reports
use Rattle.mscp_sim.proofs.TwoEnds.Matching.{Ends, ends_match, stays}

-- ---- a step

commands_passed : (via : Connection) (n : ℕ) (rs : List Record)
    → commands (waiting_on via (map (passed_by n) rs)) ≡ commands (waiting_on via rs)
commands_passed via n [] = refl
commands_passed via n (r ∷ rs) = search (arith, commands_passed via n rs)

-- the commands of the records in front of a place, of that at the place, and of those behind it
commands_cut : (via : Connection) (rs : List Record) (place : ℕ) → place < length rs
    → commands (waiting_on via rs) ≡ commands (waiting_on via (take place rs))
    ++ (commands (waiting_on via (record_at rs place ∷ [])) ++ commands (waiting_on via (drop (place + 1) rs)))
commands_cut via rs place l = search (arith, cut_at no_record rs place l, filter-append, map-append)

-- a step serves the record at a place, which had this end, if it had one: what is left, and the ends then
record Leaves {K : Type 0} (via : Connection) (h h' : Holdings K) (k : Block) (d : Drive) (place : ℕ) (o : Option End) :
    Type 0 where
  pub inside : place < length h.waiting
  pub waiting : commands (waiting_on via h'.waiting) ≡ commands (waiting_on via (take place h.waiting))
      ++ (commands (waiting_on via (remains (record_at h.waiting place) o))
      ++ commands (waiting_on via (drop (place + 1) h.waiting)))
  pub ends : of via h'.untaken ≡ of via h.untaken
      ++ (if same_connection (record_at h.waiting place).connection via then option_to_list o else [])
  pub settings : h'.settings ≡ h.settings
  pub given : (e : End) → o ≡ Some e → let r = record_at h.waiting place in
      e ≡ outcome_at d.unit d.online r.command r.good k

-- the record goes on
served_on : {K : Type 0} (via : Connection) (a : Account) (h h' : Holdings K) (told : Flight) (k : Block) (d : Drive)
    (place : ℕ) → Leaves via h h' k d place None → Matches via a h told → Matches via a h' told
served_on {K} via a h h' told k d place x m =
    search (arith, commands_cut via h.waiting place x.inside, append-nil (of via h.untaken), stays)

-- it ends, and is of this connection or of the other
served_end : {K : Type 0} (via : Connection) (a : Account) (h h' : Holdings K) (told : Flight) (k : Block) (d : Drive)
    (place : ℕ) (e : End) (own : Bool) → same_connection (record_at h.waiting place).connection via ≡ own
    → Leaves via h h' k d place (Some e) → Matches via a h told → Matches via a h' told
served_end {K} via a h h' told k d place e true o x m =
    let r = record_at h.waiting place in
    let is = x.given e refl in
    let front = commands (waiting_on via (take place h.waiting)) in
    let back = commands (waiting_on via (drop (place + 1) h.waiting)) in
    let ends : Ends via h h' = record {
      front = front;
      own = r.command;
      back = back;
      end = e;
      waited = commands_cut via h.waiting place x.inside ∙ ap (λ b. front ++ (commands (cond b (r ∷ []) []) ++ back)) o;
      left = x.waiting;
      ends = x.ends ∙ ap (λ b. of via h.untaken ++ (if b then e ∷ [] else [])) o;
      reference = ap (λ (x : End). x.reference) is;
      code = ap (λ (x : End). x.code) is;
      settings = x.settings;
    } in
    search (arith, ends_match, ends)
served_end {K} via a h h' told k d place e false o x m =
    search (arith, commands_cut via h.waiting place x.inside, append-nil (of via h.untaken), stays)

served_with : {K : Type 0} (via : Connection) (a : Account) (h h' : Holdings K) (told : Flight) (k : Block) (d : Drive)
    (place : ℕ) (o : Option End) → Leaves via h h' k d place o → Matches via a h told → Matches via a h' told
served_with via a h h' told k d place None x m = served_on via a h h' told k d place x m
served_with via a h h' told k d place (Some e) x m =
    served_end via a h h' told k d place e (same_connection (record_at h.waiting place).connection via) refl x m

pub steps_match : {K : Type 0} (via : Connection) (picks : List Choice → ℕ → Type 0) (a : Account) (h h' : Holdings K)
    (told : Flight) (k : Block) (report : Report) → Steps picks k h report h' → Matches via a h told
    → Matches via a h' told
steps_match {K} via picks a h h' told k reports.Idle s m = grind (arith, append-nil, stays)
steps_match {K} via picks a h h' told k (reports.Served connection reference unit lbn started seek end) s m =
    let place = s.serves.0 in
    let at = s.serves.1 in
    let d = drive_at h.drives h.waiting place in
    let r = record_at h.waiting place in
    let report = reports.Served connection reference unit lbn started seek end in
    let brings : ends_reported via report
    ≡ (if same_connection r.connection via then option_to_list (end_given k d r) else []) =
    ap (ends_reported via) at.told in
    let leaves : Leaves via h h' k d place (end_given k d r) =
    search (arith, filter-append, map-append, commands_passed, false≢true) in
    served_with via a h h' told k d place (end_given k d r) leaves m
