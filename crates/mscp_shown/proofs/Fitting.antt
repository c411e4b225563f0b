-- The numbers of the ends that a controller makes fit their places, where its messages are bytes.
use Rattle.mscp_shown.proofs.Common.{AreBytes, Block, BodyKind, Bool, Command, List, None, Opcode, Option, Order, Settings, Shape, Some, aborted_end, arith, command_of, false, fault_of, if◌then◌else◌, is_queued, is_success, kind_of_code, moved_body, opcode_of, order_with, outcome_body, outcome_of, outcome_status, own_end, own_end_with, refl, refused_body, slice_index, true, zero_body, ℕ, ◌%◌, ◌<◌, ◌^◌, ◌≡◌}
use Rattle.mscp_packet.specs.declared.command.Order.TheVariants as orders
use Rattle.mscp_packet.specs.declared.end.EndBody.TheVariants as bodies
use Rattle.mscp_shown.proofs.Reading.{IsBodyFit, IsFit}
use Rattle.mscp_shown.proofs.Suiting.{IsFault}
use Rattle.mscp_shown.proofs.Taking.{four_small, two_small}

-- ---- what a message asks for
abbrev pub IsSmallOrder : Order → Type 0
IsSmallOrder (orders.Abort other) = other < 2 ^ 32
IsSmallOrder (orders.Status other) = other < 2 ^ 32
IsSmallOrder (orders.Move kind count block) = count < 2 ^ 32
IsSmallOrder (orders.Invalid byte fault) = (fault < 2 ^ 16) × (0 < fault % 32)
IsSmallOrder order = Unit {0}

pub record IsSmallCommand (k : Command) : Type 0 where
  pub reference : k.reference < 2 ^ 32
  pub unit : k.unit < 2 ^ 16
  pub order : IsSmallOrder k.order

module _ (b : List ℕ) (h : AreBytes b) where
  small_found : (found : Option Opcode) → IsSmallOrder (order_with found b)
  small_found None = (omega arith, omega arith)
  small_found (Some o) = grind arith

  pub small_command : IsSmallCommand (command_of b)
  unfolding command_of
  small_command = record {
    reference = four_small b h 0;
    unit = two_small b h 4;
    order = small_found (opcode_of (slice_index b 8));
  }

-- ---- bodies
zero_fit : (kind : Option BodyKind) → IsBodyFit (zero_body kind)
zero_fit x = grind arith

refused_fit : (code : ℕ) → IsBodyFit (refused_body code)
refused_fit code = zero_fit (kind_of_code code)

moved_fit : (o : Order) (good : ℕ) → IsSmallOrder o → IsBodyFit (moved_body o good)
moved_fit order good h = grind (arith, refused_fit)

online_fit : (s : Shape) (success : Bool)
    → IsBodyFit (if success then bodies.Online s.id s.media s.size s.serial else bodies.Online 0 0 0 0)
online_fit s success = grind arith

pub outcome_fit : (s : Shape) (status : ℕ) (o : Order) (good : ℕ) → IsSmallOrder o → IsBodyFit
    (outcome_body s status o good)
outcome_fit s status orders.Online good h = online_fit s (is_success status)
outcome_fit s status orders.SetUnit good h = online_fit s (is_success status)
outcome_fit s status order good h = grind (arith, moved_fit)

-- ---- statuses
pub ended_small : (online : Bool) (o : Order) (k : Block) → IsFault k → outcome_status online o k < 2 ^ 16
ended_small online o k h = grind arith

-- ---- ends
own_fit_with : (c : Settings) (online : Bool) (figure : ℕ) (k : Command) (f : Option ℕ) → fault_of c k ≡ f
    → is_queued c k ≡ false → IsSmallCommand k → figure < 2 ^ 32 → IsFit c (own_end_with c online figure k f)
own_fit_with c online figure k None e q h l = grind arith
own_fit_with c online figure k (Some status) e q h l = grind arith

pub own_fit : (c : Settings) (online : Bool) (figure : ℕ) (k : Command) → is_queued c k ≡ false → IsSmallCommand k
    → figure < 2 ^ 32 → IsFit c (own_end c online figure k)
own_fit c online figure k q h l = own_fit_with c online figure k (fault_of c k) refl q h l

pub aborted_fit : (c : Settings) (k : Command) (good : ℕ) → IsSmallCommand k → IsFit c (aborted_end k good)
aborted_fit c k good h = grind arith

pub served_fit : (c : Settings) (online : Bool) (k : Command) (good : ℕ) (block : Block) → is_queued c k ≡ true
    → IsSmallCommand k → IsFault block → IsFit c (outcome_of c online k good block)
served_fit c online k good block q h fault = grind arith
