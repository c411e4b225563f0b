-- The bytes that a port is saved as say that port.
use Rattle.mscp_port.proofs.Common.{◌≡◌, ℕ, ◌+◌, ◌*◌, ◌<◌, ◌≤◌, ◌^◌, Bool, true, List, ◌++◌, drop, take, get_or, length, append_assoc, refl, ap, subst, ◌∙◌, arith, flat_map, if◌then◌else◌, Option, None, IfSome, Ok, Err, AllByRecursion, drop-append_seam, take-append_seam, and_from, eq-eqb, le-leb, lt-ltb, drop-drop, length-append, recursion_from_All, bytes_eq-Decides, eight, four, two, parts_in, controller_restored, controller_bytes, flag_back, IsBack, parts_rest, parts_said, Buffer, Decided, Outgoing, Port, RestoreFault, Volume, AreRings, Rings, coded_task, number_or_none, optional, some_byte, stage_byte, stage_in, stage_word, task_in, all_decided_in, area_in, decided_in, buffer_in, buffers_in, coded_in, frame_fault, is_framed, outgoing_in, over, port_in, restored, restored_unless, rings_if, text_in, volume_in, volumes_in, whose, HasDecidedRange, HasBufferRange, HasRange, HasVolumeRange, decided_bytes, buffer_bytes, length_of, outgoing_byte, outgoing_text, rings_or_none, saved_bytes, volume_bytes}
use Rattle.mscp_saved.proofs.BackParts.{parts_long}
use Rattle.mscp_port.specs.declared.port.restoring.RestoreFault.TheVariants as faults
use Rattle.mscp_port.proofs.Coded.{bus_back, optional_back, size_back, stage_back, task_back}

-- ---- parts

volume_is_back : (v : Volume) → HasVolumeRange v → IsBack volume_in volume_bytes 18 v
volume_is_back v h =
    search (
      arith,
      four v.size h.size,
      four v.media h.media,
      flag_back,
    )

decided_is_back : (d : Decided) → HasDecidedRange d → IsBack decided_in decided_bytes 13 d
decided_is_back d h = search (arith, four, two)

buffer_is_back : (b : Buffer) → HasBufferRange b → IsBack buffer_in buffer_bytes 21 b
buffer_is_back b h = search (arith, four, two)

outgoing_back : (o : Option Outgoing) → outgoing_in (outgoing_byte o) (outgoing_text o) ≡ o
outgoing_back o = search arith

rings_is : (o : Option Rings) → IfSome o (λ r. AreRings r) → rings_if (some_byte o) (rings_or_none o) ≡ o
rings_is o h1 = search (arith, and_from, le-leb, lt-ltb)

-- the numbers of rings are small
pub record AreSmall (r : Rings) : Type 0 where
  pub base : r.base < 2 ^ 32
  pub responses : r.responses < 2 ^ 32
  pub commands : r.commands < 2 ^ 32

small : (o : Option Rings) → IfSome o (λ r. AreRings r) → AreSmall (rings_or_none o)
small o h1 = grind arith

-- ---- all

module _ {K : Type 0} (number : ℕ) (p : Port K) where
  abbrev b : List ℕ
  b = saved_bytes number p

  abbrev vs : List ℕ
  vs = flat_map volume_bytes p.volumes

  abbrev ts : List ℕ
  ts = outgoing_text p.outgoing

  abbrev bs : List ℕ
  bs = flat_map buffer_bytes p.buffers.items

  abbrev os : List ℕ
  os = flat_map decided_bytes p.decided.items

  abbrev cs : List ℕ
  cs = controller_bytes number p.controller

  volumes_back : HasRange p → AllByRecursion (IsBack volume_in volume_bytes 18) p.volumes
  volumes_back r = recursion_from_All (IsBack volume_in volume_bytes 18) p.volumes
      (λ k d l. volume_is_back (get_or p.volumes k d) (r.volumes k d l))

  buffers_back : HasRange p → AllByRecursion (IsBack buffer_in buffer_bytes 21) p.buffers.items
  buffers_back r = search (arith, recursion_from_All, buffer_is_back)

  decided_back : HasRange p → AllByRecursion (IsBack decided_in decided_bytes 13) p.decided.items
  decided_back r = search (arith, recursion_from_All, decided_is_back)

  behind_head : drop 82 b ≡ vs ++ (ts ++ (bs ++ (os ++ cs)))
  behind_head =
      append_assoc (vs ++ ts ++ bs) os cs
      ∙ append_assoc (vs ++ ts) bs (os ++ cs)
      ∙ append_assoc vs ts (bs ++ (os ++ cs))

  behind_volumes : HasRange p → drop 370 b ≡ ts ++ (bs ++ (os ++ cs))
  behind_volumes r =
      search (
        arith,
        drop-drop 288 82 b,
        parts_rest volume_in volume_bytes 18 p.volumes (ts ++ (bs ++ (os ++ cs))) (volumes_back
            r),
        volumes_back r,
        behind_head,
      )

  behind_text : HasRange p → drop (370 + length ts) b ≡ bs ++ (os ++ cs)
  behind_text r = search (arith, drop-drop (length ts) 370 b, behind_volumes r, drop-append_seam ts (bs ++ (os ++ cs)))

  behind_buffers : HasRange p → drop (370 + length ts + 21 * length p.buffers.items) b ≡ os ++ cs
  behind_buffers r =
      search (
        arith,
        drop-drop (21 * length p.buffers.items) (370 + length ts) b,
        behind_text r,
        parts_rest buffer_in
            buffer_bytes 21 p.buffers.items (os ++ cs) (buffers_back r),
        buffers_back r,
      )

  behind_decided : HasRange p
      → drop (370 + length ts + 21 * length p.buffers.items + 13 * length p.decided.items) b ≡ cs
  behind_decided r =
      search (
        arith,
        drop-drop (13 * length p.decided.items) (370 + length ts + 21 * length p.buffers.items) b,
        behind_buffers r,
        parts_rest decided_in
            decided_bytes 13 p.decided.items cs (decided_back r),
        decided_back r,
      )

  volumes_said : HasRange p → volumes_in b ≡ p.volumes
  volumes_said r =
      ap (parts_in volume_in 18 16) behind_head
      ∙ subst (λ n. parts_in volume_in 18 n (vs ++ (ts ++ (bs ++ (os ++ cs)))) ≡ p.volumes) r.sixteen
      (parts_said volume_in volume_bytes 18 p.volumes (ts ++ (bs ++ (os ++ cs))) (volumes_back r))

  text_said : HasRange p → text_in b ≡ ts
  text_said r = ap (take (length ts)) (behind_volumes r) ∙ take-append_seam ts (bs ++ (os ++ cs))

  buffers_said : HasRange p → buffers_in b ≡ p.buffers.items
  buffers_said r =
      ap (parts_in buffer_in 21 (length p.buffers.items)) (behind_text r)
      ∙ parts_said buffer_in buffer_bytes 21 p.buffers.items (os ++ cs) (buffers_back r)

  decided_said : HasRange p → all_decided_in b ≡ p.decided.items
  decided_said r =
      ap (parts_in decided_in 13 (length p.decided.items)) (behind_buffers r)
      ∙ parts_said decided_in decided_bytes 13 p.decided.items cs (decided_back r)

  area_said : HasRange p → area_in b ≡ rings_or_none p.rings
  area_said r = search (arith, small p.rings r.hand.rings, four)

  coded_said : HasRange p → coded_in b ≡ coded_task p.task
  coded_said r = search (arith, four, two)

  port_said : HasRange p → port_in b p.controller ≡ p
  port_said r = λ i. record {
    hardware = record {
      bus = bus_back p.hardware.bus i;
      model = p.hardware.model;
      software = p.hardware.software;
      version = p.hardware.version;
    };
    controller = p.controller;
    more = p.more;
    untold = p.untold;
    stage = (ap (stage_in (stage_byte p.stage)) (two (stage_word p.stage) r.hand.stage) ∙ stage_back p.stage) i;
    words = record {
      first = two p.words.first r.state.first i;
      second = two p.words.second r.state.second i;
    };
    written = (ap (optional (some_byte p.written)) (two (number_or_none p.written) r.hand.written)
        ∙ optional_back p.written) i;
    rings = (ap (rings_if (some_byte p.rings)) (area_said r) ∙ rings_is p.rings r.hand.rings) i;
    responses = p.responses;
    commands = p.commands;
    task = (ap task_in (coded_said r) ∙ task_back p.task r.hand.task) i;
    outgoing = (ap (outgoing_in (outgoing_byte p.outgoing)) (text_said r) ∙ outgoing_back p.outgoing) i;
    is_polled = flag_back p.is_polled i;
    is_stalled = flag_back p.is_stalled i;
    is_full = flag_back p.is_full i;
    owes_block = flag_back p.owes_block i;
    serial = eight p.serial r.hand.serial i;
    buffers = record { items = buffers_said r i };
    decided = record { items = decided_said r i };
    volumes = volumes_said r i;
    flags = two p.flags r.state.flags i;
    timeout = two p.timeout r.state.timeout i;
    left = two p.left r.state.left i;
  }

  -- ---- its head

  saved_long : HasRange p → length b ≡ length_of number p
  saved_long r =
      search (
        arith,
        parts_long volume_in volume_bytes 18 p.volumes (volumes_back r),
        volumes_back r,
        parts_long
            buffer_in buffer_bytes 21 p.buffers.items (buffers_back r),
        buffers_back r,
        parts_long decided_in decided_bytes 13 p.decided.items (decided_back r),
        decided_back r,
        length-append (vs ++ ts ++ bs ++ os) cs,
        length-append (vs ++ ts ++ bs) os,
        length-append (vs ++ ts) bs,
        length-append vs ts,
      )

  framed : HasRange p → length cs ≤ 3664 → is_framed b ≡ true
  framed r fits = search (arith, saved_long r, four, and_from, le-leb, eq-eqb)

  frame_passes : HasRange p → length cs ≤ 3664 → frame_fault b ≡ None
  frame_passes r fits = search (arith, framed, coded_said, size_back)

  -- ---- the bytes say the port

  pub restored_back : HasRange p → length cs ≤ 3664
      → controller_restored number p.controller.picker cs ≡ Ok p.controller
      → restored number p.controller.picker b ≡ Ok p
  restored_back r fits back =
      ap (λ (f : Option RestoreFault). restored_unless f number p.controller.picker b) (frame_passes r fits)
      ∙ (ap (λ l. over number b (controller_restored number p.controller.picker l)) (behind_decided r)
      ∙ (ap (over number b) back
      ∙ (ap (whose number b) (port_said r)
      ∙ ap (λ (yes : Bool). if yes then Ok p else Err faults.Form) ((bytes_eq-Decides b b).1 refl))))
