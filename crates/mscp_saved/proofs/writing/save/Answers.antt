use Rattle.mscp_saved.proofs.Common.{All, ◌≡◌, ◌∙◌, ◌<◌, ◌^◌, List, length, ap, subst, arith, rules, IfSome, End, HasEndRange, Drive, HasDriveRange, HasLimitRange, HasRange, restored, saved_bytes}
use Rattle.mscp_saved.proofs.Faithful.{back_of}
use Rattle.mscp_saved.proofs.Sizes.{sizes_of}
use Rattle.mscp_saved.proofs.writing.save.Goals as goal

pub put_ends-requires : goal.put_ends-requires
put_ends-requires g c =
    let sizes = sizes_of c.drives-drives.ensures.sound in
    omega (
      arith,
      sizes.drives,
      sizes.parts,
      c.put_head.ensures.len,
      c.put_drives.ensures.len,
      c.put_all_waiting.ensures.len,
      ap (λ (ds : List Drive). length ds) c.drives-drives.ensures.value,
      ap (λ (es : List End). length es) c.ends.ensures.value,
    )

pub put_ends-requires-2 : goal.put_ends-requires-2
put_ends-requires-2 g c =
    let sizes = sizes_of c.drives-drives.ensures.sound in
    omega (
      arith,
      sizes.drives,
      sizes.parts,
      c.put_head.ensures.len,
      c.put_drives.ensures.len,
      c.put_all_waiting.ensures.len,
      c.put_ends.ensures.len,
      ap (λ (ds : List Drive). length ds) c.drives-drives.ensures.value,
      ap (λ (es : List End). length es) c.ends.ensures.value,
      ap (λ (es : List End). length es) c.ends-2.ensures.value,
    )

pub returns-clause-back : goal.returns-clause-back
returns-clause-back g c =
    let h = c.args.controller.now in
    let range : HasRange h = record {
      limits = subst HasLimitRange c.config.ensures.value c.put_head.ensures.limits;
      drives = subst (All HasDriveRange) c.drives-drives.ensures.value c.put_drives.ensures.range;
      waiting = c.put_all_waiting.ensures.range;
      first = subst (All HasEndRange) c.ends.ensures.value c.put_ends.ensures.range;
      second = subst (All HasEndRange) c.ends-2.ensures.value c.put_ends-2.ensures.range;
      begun = subst (λ begun. IfSome begun (λ name. name.reference < 2 ^ 32)) c.begun.ensures c.put_head.ensures.begun;
    } in
    let bytes : c.put_ends-2.new.out.items ≡ saved_bytes c.args.picker h = search rules in
    ap (restored c.args.picker h.picker) bytes ∙ back_of c.args.picker h c.drives-drives.ensures.sound range
