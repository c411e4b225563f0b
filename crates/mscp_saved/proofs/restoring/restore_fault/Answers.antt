use Rattle.mscp_saved.proofs.Common.{◌∙◌, sym, length-take-le}
use Rattle.mscp_saved.proofs.Gathered.{both_of, ends_first, ends_fit, ends_many, ends_second, read_is, told_good}
use Rattle.mscp_saved.proofs.Outcomes.{frame_none}
use Rattle.mscp_saved.proofs.Parted.{parted, parts_few, saved_if, settings_refused}
use Rattle.mscp_saved.proofs.restoring.restore_fault.Goals as goal

pub read_second-requires-clause-room : goal.read_second-requires-clause-room
read_second-requires-clause-room g c = ends_fit c.args.bytes.now (frame_none c.args.bytes.now
    (sym c.frame_fault.ensures ∙ c.in_default.is)) c.new-ends.ensures c.read_first.ensures

pub slice_bounds-parts_or_form_fault-end : goal.slice_bounds-parts_or_form_fault-end
slice_bounds-parts_or_form_fault-end g c =
    let both = both_of c.args.bytes.now c.new-ends.ensures c.read_first.ensures c.read_second.ensures in
    sym (length-take-le c.from-first.result c.as_slice-5.result.now
    (ends_many c.args.bytes.now both c.as_slice-5.ensures.value c.from-first.ensures))

pub slice_bounds-parts_or_form_fault-count : goal.slice_bounds-parts_or_form_fault-count
slice_bounds-parts_or_form_fault-count g c =
    let both = both_of c.args.bytes.now c.new-ends.ensures c.read_first.ensures c.read_second.ensures in
    ends_many c.args.bytes.now both c.as_slice-6.ensures.value c.from-first.ensures

pub slice_bounds-parts_or_form_fault-start : goal.slice_bounds-parts_or_form_fault-start
slice_bounds-parts_or_form_fault-start g c =
    let both = both_of c.args.bytes.now c.new-ends.ensures c.read_first.ensures c.read_second.ensures in
    ends_many c.args.bytes.now both c.as_slice-6.ensures.value c.from-first.ensures

pub parts_or_form_fault-requires-clause-parts : goal.parts_or_form_fault-requires-clause-parts
parts_or_form_fault-requires-clause-parts g c =
    let b = c.args.bytes.now in
    let both = both_of b c.new-ends.ensures c.read_first.ensures c.read_second.ensures in
    parts_few b (frame_none b (sym c.frame_fault.ensures ∙ c.in_default.is))
    (c.as_slice-4.ensures.value ∙ c.read_all_waiting.ensures.value)
    (ends_first b both c.as_slice-5.ensures.value c.from-first.ensures)
    (ends_second b both c.as_slice-6.ensures.value c.from-first.ensures)

pub returns-in-Some-settings_fault-clause-value : goal.returns-in-Some-settings_fault-clause-value
returns-in-Some-settings_fault-clause-value g c =
    let b = c.args.bytes.now in
    settings_refused c.args.number c.args.picker.now b (sym c.frame_fault.ensures ∙ c.in_default.is)
    (told_good b c.read_all_drives.ensures.value c.as_slice.ensures.value
    (c.as_slice-2.ensures.value ∙ c.put_units.ensures) c.settings_fault.ensures ∙ c.in-Some-settings_fault.is)

pub returns : goal.returns
returns g c =
    let b = c.args.bytes.now in
    let both = both_of b c.new-ends.ensures c.read_first.ensures c.read_second.ensures in
    let read = read_is b c.read_all_drives.ensures.value c.as_slice.ensures.value c.put_units.ensures
    c.config_of.ensures c.as_slice-3.ensures.value c.read_all_waiting.ensures.value c.as_slice-4.ensures.value
    (ends_first b both c.as_slice-5.ensures.value c.from-first.ensures)
    (ends_second b both c.as_slice-6.ensures.value c.from-first.ensures) in
    let frame = sym c.frame_fault.ensures ∙ c.in_default.is in
    let good = told_good b c.read_all_drives.ensures.value c.as_slice.ensures.value
    (c.as_slice-2.ensures.value ∙ c.put_units.ensures) c.settings_fault.ensures ∙ c.in_default-settings_fault.is in
    let told = c.parts_or_form_fault.ensures in
    record {
      value = parted c.args.number c.args.picker.now read frame good told.fault;
      saved = saved_if c.args.number c.args.picker.now read frame good told.fault told.valid told.waitable;
    }
