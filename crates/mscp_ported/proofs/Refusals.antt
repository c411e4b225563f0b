-- Which messages find a credit, and that an end which is answered at once tells no greater figure.
use Rattle.mscp_ported.proofs.Common.{BodyKind, Bool, Command, List, None, Option, SendFault, Settings, Some, arith, cond, figure_in, none-some, num, own_end_with, refl, refusal, slice_index, true, zero_body, ℕ, ◌<◌, ◌^◌, ◌≡◌, ◌≤◌}
use Rattle.mscp_packet.specs.declared.end.BodyKind.TheVariants as kinds_of
use Rattle.mscp_controller.specs.declared.entry.SendFault.TheVariants as faults

pub num_small : (b : List ℕ) → ((i : ℕ) → slice_index b i < 2 ^ 8) → num b 12 4 < 2 ^ 32
num_small b h = grind arith

-- an end that is answered at once tells no greater figure
zero_figure : (kind : Option BodyKind) → figure_in (zero_body kind) ≡ 0
zero_figure (Some kinds_of.Bare) = refl
zero_figure kind = refl

zero_least : (y figure : ℕ) → y ≡ 0 → y ≤ figure
zero_least y figure e = search (arith, e)

pub own_figure : (s : Settings) (online : Bool) (figure : ℕ) (x : Command) (o : Option ℕ)
    → figure_in (own_end_with s online figure x o).body ≤ figure
own_figure s online figure x o = grind (arith, zero_least, zero_figure)

-- a message that isn't refused finds a credit
pub some_balance : (balance : ℕ) (os b : List ℕ) → refusal balance os b ≡ None → 1 ≤ balance
some_balance balance os b e = grind (arith, none-some, e)
