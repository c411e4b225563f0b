-- What each host did in a turn is a moment of its own history.
use Rattle.mscp_sim.proofs.Common.{◌≡◌, ℕ, ◌<◌, length, arith, Option, Some, Result, false≢true, true≢false, get_or-map, ArrayVec, Command, Connection, Both, of, own_side, Moment, HostFault, News, Account, submits, Other, news_heard, Answers, Turn, Heard, Said, Talk, heard_by, history, said, submits_in, IsHeard, IsSubmitted}
use Rattle.mscp_host.specs.Histories as host
use Rattle.mscp_sim.specs.declared.conversing.Heard.TheVariants as hears
use Rattle.mscp_sim.proofs.TwoEnds.Sides.{each_side, of_other, of_put}

-- the moment that a turn is of a host's history
abbrev pub own_part : Connection → Said → host.Moment
own_part via s = heard_by via s.turn s.heard s.moment

pub moment_is : (via : Connection) (talk : Talk) (j : ℕ) → j < length talk
    → host.moment (history via talk) j ≡ own_part via (said talk j)
moment_is via talk j l = get_or-map (own_part via) talk j _ Other l

-- ---- its answer is that of the call

submit_answers : (via : Connection) (old : Account) (command : Command) (s : Said) (o : Result (ArrayVec ℕ) HostFault)
    (new : Account) → submits old command ≡ (o, new) → IsSubmitted via s o
    → Answers old (submits_in command s.heard s.moment) new
submit_answers via old command s o new h1 h2 = search arith

pub answers : (old new : Both Account) (s : Said) (t : Turn) → IsHeard old t s new → (via : Connection)
    → Answers (of via old) (heard_by via t s.heard s.moment) (of via new)
answers old new s t h1 = search (arith, each_side, own_side, of_put, of_other, submit_answers)

-- ---- its news are those that are heard

pub news_of : (via : Connection) (t : Turn) (heard : Heard) (m : Option Moment) (n : News)
    → news_heard (heard_by via t heard m) ≡ Some n → heard ≡ hears.News n
news_of via t heard m n e = grind (arith, false≢true)

pub said_news : (old new : Both Account) (s : Said) (t : Turn) (n : News) → IsHeard old t s new → s.heard ≡ hears.News n
    → (via : Connection) × (news_heard (heard_by via t s.heard s.moment) ≡ Some n)
said_news old new s t n h1 h2 = search (arith, true≢false, false≢true, own_side)
