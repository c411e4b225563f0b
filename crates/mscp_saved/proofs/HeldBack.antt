-- The bytes of a controller say it.
use Rattle.mscp_saved.proofs.Common.{◌≡◌, ℕ, ◌+◌, ◌*◌, ◌<◌, ◌^◌, List, [], ◌++◌, drop, length, append_assoc, append-nil, ap, ◌∙◌, arith, flat_map, Option, IfSome, AllByRecursion, drop-drop, length-append, eight, four, two, Name, units_of, Holdings, HasRange, all_waiting_in, begun_in, drive_in, drives_in, end_in, first_in, held_in, name_in, second_in, settings_in, waiting_in, begun_connection, begun_reference, drive_bytes, end_cell, saved_bytes, saved_length, waiting_bytes}
use Rattle.mscp_saved.proofs.Back.{begun_back}
use Rattle.mscp_saved.proofs.BackParts.{IsBack, parts_long, parts_rest, parts_said}

-- each part reads back
pub record AreBack {K : Type 0} (h : Holdings K) : Type 0 where
  pub drives : AllByRecursion (IsBack drive_in drive_bytes 34) h.drives
  pub waiting : AllByRecursion (IsBack waiting_in waiting_bytes 41) h.waiting
  pub first : AllByRecursion (IsBack end_in end_cell 48) h.untaken.first
  pub second : AllByRecursion (IsBack end_in end_cell 48) h.untaken.second

module _ {K : Type 0} (number : ℕ) (h : Holdings K) where
  abbrev b : List ℕ
  b = saved_bytes number h

  abbrev ds : List ℕ
  ds = flat_map drive_bytes h.drives

  abbrev rs : List ℕ
  rs = flat_map waiting_bytes h.waiting

  abbrev fs : List ℕ
  fs = flat_map end_cell h.untaken.first

  abbrev ss : List ℕ
  ss = flat_map end_cell h.untaken.second

  behind_head : drop 48 b ≡ ds ++ (rs ++ (fs ++ ss))
  behind_head = search (arith, append_assoc (ds ++ rs) fs ss, append_assoc ds rs (fs ++ ss))

  module _ (a : AreBack h) where
    behind_drives : drop (48 + 34 * length h.drives) b ≡ rs ++ (fs ++ ss)
    behind_drives = search (
      arith,
      drop-drop (34 * length h.drives) 48 b,
      parts_rest drive_in drive_bytes 34 h.drives (rs ++ (fs ++ ss)) a.drives,
      behind_head,
    )

    behind_waiting : drop (48 + 34 * length h.drives + 41 * length h.waiting) b ≡ fs ++ ss
    behind_waiting = search (
      arith,
      drop-drop (41 * length h.waiting) (48 + 34 * length h.drives) b,
      behind_drives,
      parts_rest waiting_in waiting_bytes 41 h.waiting (fs ++ ss) a.waiting,
    )

    behind_first : drop (48 + 34 * length h.drives + 41 * length h.waiting + 48 * length h.untaken.first) b ≡ ss ++ []
    behind_first = search (
      arith,
      drop-drop (48 * length h.untaken.first) (48 + 34 * length h.drives + 41 * length h.waiting) b,
      behind_waiting,
      parts_rest end_in end_cell 48 h.untaken.first ss a.first,
      append-nil ss,
    )

    drives_said : drives_in b ≡ h.drives
    drives_said = search (arith, parts_said drive_in drive_bytes 34 h.drives (rs ++ (fs ++ ss)) a.drives, behind_head)

    waiting_said : all_waiting_in b ≡ h.waiting
    waiting_said = search (arith, behind_drives, parts_said waiting_in waiting_bytes 41 h.waiting (fs ++ ss) a.waiting)

  first_said : AreBack h → first_in b ≡ h.untaken.first
  first_said a = search (arith, behind_waiting a, parts_said end_in end_cell 48 h.untaken.first ss a.first)

  second_said : AreBack h → second_in b ≡ h.untaken.second
  second_said a = search (arith, behind_first a, parts_said end_in end_cell 48 h.untaken.second [] a.second)

  begun_small : (begun : Option Name) → IfSome begun (λ name. name.reference < 2 ^ 32) → begun_reference begun < 2 ^ 32
  begun_small begun h1 = grind arith

  begun_said : HasRange h → begun_in b ≡ h.begun
  begun_said r = ap (name_in (begun_connection h.begun)) (four (begun_reference h.begun) (begun_small h.begun r.begun))
      ∙ begun_back h.begun

  settings_said : HasRange h → AreBack h → settings_in b (drives_in b) ≡ record h.settings { units = units_of h.drives }
  settings_said r a = search (arith, four, two, eight, drives_said)

  pub held_said : HasRange h → units_of h.drives ≡ h.settings.units → AreBack h → held_in h.picker b ≡ h
  held_said r units a =
      search (arith, settings_said r a, waiting_said, first_said, second_said, drives_said, begun_said)

  pub saved_long : AreBack h
      → length b ≡ saved_length (length h.drives) (length h.waiting) (length h.untaken.first + length h.untaken.second)
  saved_long a = search (
    arith,
    parts_long drive_in drive_bytes 34 h.drives a.drives,
    parts_long waiting_in waiting_bytes 41 h.waiting a.waiting,
    parts_long end_in end_cell 48 h.untaken.first a.first,
    parts_long end_in end_cell 48 h.untaken.second a.second,
    length-append (ds ++ rs ++ fs) ss,
    length-append (ds ++ rs) fs,
    length-append ds rs,
  )
