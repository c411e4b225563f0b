-- What a unit is, and which cylinder has a block.
use Rattle.std.specs.Prelude.{ℕ, ◌-◌, ◌*◌, ◌/◌}

-- the number and the sizes of a unit: a track in blocks, a group in tracks, a cylinder in groups, and the
-- whole unit in blocks; and the identifiers of the unit, of its media and of its volume (manual)
pub record Shape : Type 0 where
  pub number : ℕ
  pub track : ℕ
  pub group : ℕ
  pub cylinder : ℕ
  pub size : ℕ
  pub id : ℕ
  pub media : ℕ
  pub serial : ℕ

abbrev pub shape : ℕ → ℕ → ℕ → ℕ → ℕ → ℕ → ℕ → ℕ → Shape
shape number track group cylinder size id media serial =
    record {
      number = number;
      track = track;
      group = group;
      cylinder = cylinder;
      size = size;
      id = id;
      media = media;
      serial = serial;
    }

-- a unit of one block, which stands for one that isn't configured
abbrev pub one_block : Shape
one_block = record { number = 0; track = 1; group = 1; cylinder = 1; size = 1; id = 0; media = 0; serial = 0 }

-- the blocks of a cylinder (profile)
abbrev pub cylinder_blocks : Shape → ℕ
cylinder_blocks u = u.track * u.group * u.cylinder

-- whole cylinders before a block (profile)
abbrev pub cylinder_of : Shape → ℕ → ℕ
cylinder_of u block = block / cylinder_blocks u

-- the cylinder of the last block (profile)
abbrev pub last_cylinder : Shape → ℕ
last_cylinder u = cylinder_of u (u.size - 1)
