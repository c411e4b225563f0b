-- A literal talk of the first host alone, worked by hand: answers that don't stand.
use Rattle.mscp_trials.proofs.Common.{◌≡◌, ℕ, true, false, [], ◌∷◌, ◌++◌, Bool, ap, sym, subst, arith, Option, Some, None, unwrap_or, eqb-true, false≢true, First, Order, End, end_bytes, Good, asks_about, is_outstanding, last_told, outstanding, Stands, Said, Talk, history}
use Rattle.mscp_packet.specs.declared.command.Order.TheVariants as orders
use Rattle.mscp_packet.specs.declared.end.EndBody.TheVariants as bodies
use Rattle.mscp_queue.specs.declared.report.Report.TheVariants as reports
use Rattle.mscp_controller.specs.declared.entry.Sent.TheVariants as sents
use Rattle.mscp_trials.proofs.Worked.Literals.{answered, moved, onlined, queued, read, served, took}
use Rattle.mscp_host.specs.declared.news.News.TheVariants as news
use Rattle.mscp_sim.specs.declared.conversing.Turn.TheVariants as turns
use Rattle.mscp_sim.specs.declared.conversing.Heard.TheVariants as hears

-- ---- short words

-- a command of unit 0 that waits
abbrev submits : ℕ → Order → Said
submits r o = record {
  turn = turns.Submit First (record { reference = r; unit = 0; order = o });
  heard = hears.Submitted (sents.Queued r);
  moment = Some (queued r 0 o);
}

-- a poll of command 1
abbrev asks : ℕ → Said
asks r = record { turn = turns.Poll First r; heard = hears.Asked; moment = Some (answered r 0 (orders.Status 1)) }

abbrev steps : ℕ → Option ℕ → Bool → ℕ → Option End → Said
steps r lbn started seek ended = record {
  turn = turns.Step Good;
  heard = hears.Stepped (reports.Served First r 0 lbn started seek ended);
  moment = Some (served Good r 0 lbn started seek ended);
}

abbrev hands : End → news.the_data → Said
hands e n = record { turn = turns.Take First; heard = hears.News n; moment = Some (took (end_bytes e)) }

abbrev online_end : End
online_end = record { reference = 9; unit = 0; code = 0x89; status = 0; body = bodies.Online 1 0 1000 1 }

abbrev read_end : End
read_end = record { reference = 1; unit = 0; code = 0xA1; status = 0; body = bodies.Moved 1024 }

-- the end of a poll of command 1
abbrev answer : ℕ → ℕ → End
answer r f = record { reference = r; unit = 0; code = 0x82; status = 0; body = bodies.Status 1 f }

-- unit 0 comes online, a READ of two blocks waits, and a first poll is answered
abbrev opening : Talk
opening =
    submits 9 orders.Online
    ∷ steps 9 None true 0 (onlined 9 0 0)
    ∷ hands online_end (news.Ended online_end)
    ∷ submits 1 (read 1024 40)
    ∷ asks 10
    ∷ hands (answer 10 18) (news.First 18)
    ∷ []

-- ---- a step between the polls, and one that ends the command

abbrev moving : Talk
moving =
    opening
    ++ steps 1 (Some 40) true 2 None
    ∷ asks 11
    ∷ hands (answer 11 1) (news.Progress 1)
    ∷ steps 1 (Some 41) false 0 (moved 1 0 0 1024)
    ∷ asks 12
    ∷ hands read_end (news.Ended read_end)
    ∷ hands (answer 12 0) news.Late
    ∷ []

-- the second answer doesn't stand: 1 is less than 18
falls : Stands (history First moving) 8 → ⊥
unfolding outstanding
falls st =
    let h = history First moving in
    let poll : st.poll ≡ 7 = sym (ap (λ o. unwrap_or o 0) st.is_told.handed) in
    let command : st.command ≡ 3 = sym (eqb-true 3 st.command
    (subst (λ p. asks_about h st.command p ≡ true) poll st.is_told.about)) in
    let last : 18 ≡ st.last =
    ap (λ o. unwrap_or o 0) (subst (λ i. last_told h 8 i ≡ Some st.last) command st.before) in
    let figure : 1 ≡ st.figure = ap (λ o. unwrap_or o 0) st.is_told.tells in
    let low = st.not_less in
    omega (arith, last, figure, low)

-- and the third neither, which comes after the command's end
late : Stands (history First moving) 12 → ⊥
unfolding outstanding
late st =
    let h = history First moving in
    let poll : st.poll ≡ 10 = sym (ap (λ o. unwrap_or o 0) st.is_told.handed) in
    let command : st.command ≡ 3 = sym (eqb-true 3 st.command
    (subst (λ p. asks_about h st.command p ≡ true) poll st.is_told.about)) in
    false≢true (subst (λ i. is_outstanding h 12 i ≡ true) command st.is_told.outstanding)
