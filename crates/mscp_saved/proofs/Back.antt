-- The bytes of a part say that part.
use Rattle.mscp_saved.proofs.Common.{◌≡◌, ℕ, ◌<◌, ◌^◌, Bool, true, ◌||◌, List, [], ◌++◌, take, drop, length, refl, ap, sym, subst, ◌∙◌, arith, slice_index, nat_eq, Option, false≢true, lt-ltb, command_bytes, command_of, HasEndRange, IsOfKind, Command, Order, End, EndBody, num, eight, four, two, Shape, Drive, Connection, Name, is_move, is_sequential, order_weight, Record, HasDriveRange, HasSizesRange, HasWaitingRange, connection_in, drive_in, end_in, name_in, sized, waiting_in, begun_connection, begun_reference, connection_byte, drive_bytes, end_cell, flag_byte, padded, waiting_bytes}
use Rattle.mscp_packet.specs.Commands.{HasRange}
use Rattle.mscp_packet.specs.declared.command.MoveKind.TheVariants as moves
use Rattle.mscp_saved.proofs.BackParts.{IsBack}

-- ---- a drive
pub flag_back : (so : Bool) → nat_eq (flag_byte so) 1 ≡ so
flag_back so = grind arith

pub connection_back : (via : Connection) → connection_in (connection_byte via) ≡ via
connection_back via = grind arith

sized_is : (u : Shape) → HasSizesRange u → sized u ≡ u
sized_is u h = search (arith, lt-ltb)

pub drive_back : (d : Drive) (t : List ℕ) → HasDriveRange d → drive_in (take 34 (drive_bytes d ++ t)) ≡ d
drive_back d t h = λ i. record {
  unit = (ap sized (λ i. record {
    number = two d.unit.number h.unit.sizes.number i;
    track = two d.unit.track h.unit.sizes.track i;
    group = two d.unit.group h.unit.sizes.group i;
    cylinder = two d.unit.cylinder h.unit.sizes.cylinder i;
    size = four d.unit.size h.unit.sizes.size i;
    id = eight d.unit.id h.unit.identifiers.id i;
    media = four d.unit.media h.unit.identifiers.media i;
    serial = four d.unit.serial h.unit.identifiers.serial i;
  }) ∙ sized_is d.unit h.unit.sizes) i;
  online = flag_back d.online i;
  head = record { up = flag_back d.head.up i; cylinder = four d.head.cylinder h.cylinder i };
}

-- ---- a waiting command
command_back : (n u : ℕ) (o : Order) (t : List ℕ) → (is_sequential o || is_move o) ≡ true → n < 2 ^ 32 → u < 2 ^ 16
    → HasRange o → command_of (take 32 (padded 32 (command_bytes (record { reference = n; unit = u; order = o })) ++ t))
    ≡ record { reference = n; unit = u; order = o }
unfolding command_of
command_back n u Order.Available t w a b h = search (arith, four, two)
command_back n u Order.Online t w a b h = search (arith, four, two)
command_back n u Order.SetUnit t w a b h = search (arith, four, two)
command_back n u (Order.Move moves.Access count block) t w a b h = search (arith, four, two)
command_back n u (Order.Move moves.Erase count block) t w a b h = search (arith, four, two)
command_back n u (Order.Move moves.Compare count block) t w a b h = search (arith, four, two)
command_back n u (Order.Move moves.Read count block) t w a b h = search (arith, four, two)
command_back n u (Order.Move moves.Write count block) t w a b h = search (arith, four, two)
command_back n u o t w a b h = absurd (false≢true w)

-- what bytes say that have a command, a connection and two numbers at their places
record_back : (via : Connection) (c : Command) (d p : ℕ) (b : List ℕ) → command_of (take 32 b) ≡ c
    → connection_in (slice_index b 40) ≡ via → num b 32 4 ≡ d → num b 36 4 ≡ p → waiting_in b
    ≡ record { connection = via; command = c; weight = order_weight c.order; done = d; good = d; passed = p }
record_back via c d p b e v f g = search arith

abbrev waiter : Connection → ℕ → ℕ → Order → ℕ → ℕ → Record
waiter via n u o d p = record {
  connection = via;
  command = record { reference = n; unit = u; order = o };
  weight = order_weight o;
  done = d;
  good = d;
  passed = p;
}

abbrev command : ℕ → ℕ → Order → Command
command n u o = record { reference = n; unit = u; order = o }

waiter_back : (via : Connection) (n u : ℕ) (o : Order) (d p : ℕ) (t : List ℕ)
    → (is_sequential o || is_move o) ≡ true → n < 2 ^ 32 → u < 2 ^ 16 → HasRange o
    → d < 2 ^ 32 → p < 2 ^ 32 → waiting_in (take 41 (waiting_bytes (waiter via n u o d p) ++ t)) ≡ waiter via n u o d p
waiter_back via n u Order.Available d p t w a b h f g =
    record_back via (command n u Order.Available) d p (take 41 (waiting_bytes (waiter via n u Order.Available d p)
    ++ t)) (command_back n u Order.Available [] w a b h) (connection_back via) (four d f) (four p g)
waiter_back via n u Order.Online d p t w a b h f g =
    record_back via (command n u Order.Online) d p (take 41 (waiting_bytes (waiter via n u Order.Online d p) ++ t))
    (command_back n u Order.Online [] w a b h) (connection_back via) (four d f) (four p g)
waiter_back via n u Order.SetUnit d p t w a b h f g =
    record_back via (command n u Order.SetUnit) d p (take 41 (waiting_bytes (waiter via n u Order.SetUnit d p) ++ t))
    (command_back n u Order.SetUnit [] w a b h) (connection_back via) (four d f) (four p g)
waiter_back via n u (Order.Move kind count block) d p t w a b h f g =
    let o = Order.Move kind count block in
    record_back via (command n u o) d p (take 41 (waiting_bytes (waiter via n u o d p) ++ t))
    (command_back n u o [] w a b h) (connection_back via) (four d f) (four p g)
waiter_back via n u o d p t w a b h f g = absurd (false≢true w)

waiter_rest : (via : Connection) (n u : ℕ) (o : Order) (d p : ℕ) (t : List ℕ)
    → (is_sequential o || is_move o) ≡ true → drop 41 (waiting_bytes (waiter via n u o d p) ++ t) ≡ t
waiter_rest via n u o d p t h7 = grind (arith, false≢true)

-- ---- an end
abbrev end : ℕ → ℕ → ℕ → ℕ → EndBody → End
end n u code status body = record { reference = n; unit = u; code = code; status = status; body = body }

end_back : (n u code status : ℕ) (body : EndBody) (t : List ℕ) → IsOfKind (end n u code status body)
    → HasEndRange (end n u code status body)
    → end_in (take 48 (end_cell (end n u code status body) ++ t)) ≡ end n u code status body
end_back n u code status EndBody.Bare t k h = search (arith, four, two)
end_back n u code status (EndBody.Abort other) t k h = search (arith, four, two)
end_back n u code status (EndBody.Status other figure) t k h = search (arith, four, two)
end_back n u code status (EndBody.UnitStatus id media track group cylinder) t k h = search (arith, four, two, eight)
end_back n u code status (EndBody.Controller timeout id) t k h = search (arith, four, two, eight)
end_back n u code status (EndBody.Online id media size serial) t k h = search (arith, four, two, eight)
end_back n u code status (EndBody.Moved count) t k h = search (arith, four, two)

end_rest : (n u code status : ℕ) (body : EndBody) (t : List ℕ) → drop 48 (end_cell (end n u code status body) ++ t) ≡ t
end_rest n u code status body t = grind arith

-- ---- each part
pub drive_is_back : (d : Drive) → HasDriveRange d → IsBack drive_in drive_bytes 34 d
drive_is_back d h = record { back = λ t. drive_back d t h; rest = λ t. refl; long = refl }

waiter_long : (via : Connection) (n u : ℕ) (o : Order) (d p : ℕ) → (is_sequential o || is_move o) ≡ true
    → length (waiting_bytes (waiter via n u o d p)) ≡ 41
waiter_long via n u o d p h6 = grind (arith, false≢true)

-- of a waiting command it is known how many steps it takes, and that all that it had were good
pub waiting_is_back : (r : Record) → HasWaitingRange r → (is_sequential r.command.order || is_move r.command.order)
    ≡ true → r.weight ≡ order_weight r.command.order → r.good ≡ r.done → IsBack waiting_in waiting_bytes 41 r
waiting_is_back r h w weight good =
    let c = r.command in
    subst (IsBack waiting_in waiting_bytes 41) (λ i. record {
      connection = r.connection;
      command = c;
      weight = sym weight i;
      done = r.done;
      good = sym good i;
      passed = r.passed;
    }) (record {
      back = λ t. waiter_back r.connection
          c.reference c.unit c.order r.done r.passed t w h.command.0 h.command.1 h.command.2 h.done h.passed;
      rest = λ t. waiter_rest r.connection c.reference c.unit c.order r.done r.passed t w;
      long = waiter_long r.connection c.reference c.unit c.order r.done r.passed w;
    })

end_long : (n u code status : ℕ) (body : EndBody) → length (end_cell (end n u code status body)) ≡ 48
end_long n u code status body = grind arith

pub end_is_back : (e : End) → IsOfKind e → HasEndRange e → IsBack (λ b. end_in b) end_cell 48 e
end_is_back e k h = record {
  back = λ t. end_back e.reference e.unit e.code e.status e.body t k h;
  rest = end_rest e.reference e.unit e.code e.status e.body;
  long = end_long e.reference e.unit e.code e.status e.body;
}

pub begun_back : (begun : Option Name) → name_in (begun_connection begun) (begun_reference begun) ≡ begun
begun_back begun = grind arith
