-- `place` moves a host into the room that a handle has. Assumes `Logic`.
use Rattle.mscp_memory.proofs.Common.{◌≡◌, List, [], ◌∷◌, ◌++◌, refl, sym, ap, ◌∙◌, lit<, proved_at, after, Bool, true, false, full_share, id⊢, ent, emp, Fml, ftrue, flft, fact, named, w64, Val, vunit, vint, WpFn, tables, ‵, raw, ◌⊛◌, prop, at_ret, ◌$◌, ◌∵◌, !, qed, done, move, keep, use0, use2, split, join, fsplit, fsplit3, fjoin, fpack, drop, feq_i, rewrite, regoal, suffices, frame, group, enter, of_opd, load, unit_lit, init, stop, fld, assigns, assigns_last, first, blocks, exec, returns, alloc_all, pass_all, free_all, look_at, get, through, sets, env, Ura, Logic, sem, whole, sub, look_in, store_in, yes, RattleType, shows, makes_shadow, shape, to, Struct, part_in, cell_at, lone, Ptr, block_ptr, ptr_val, lies_at, room_at, in_a_block, MutRef, plain, nothing, heard, opens, closes, peeks, facts, Stays, walk_of, says, stay_dropped, stay_ref, Goes-ref, Goes-dropped, ends_at, if_fml, place_fault, ◌^◌, ◌<◌, nat_eq}
use Rattle.mscp_memory.specs.DriverHandles.{Handle, is_made, is_room, placed, row as T', row_alignment, row_size}
use Rattle.mscp_memory.proofs.Placing.{one, big_lit, unmade}
use Rattle.mscp_memory.specs.declared.driver.marks.TheConstants.{ROOM}
use Rattle.mscp_memory.specs.declared.driver.handle.Handle.TheView.{inverse}
use Rattle.mscp_memory.specs.contracts.driver.handle.Handle.{the_row as R}
use Rattle.mscp_memory.specs.contracts.driver.handle.Handle.TheInside.{the_type}
use Rattle.mscp_memory.proofs.driver.handle.Handle.TheLaws.{lowers}
use Rattle.mscp_host.proofs.port_host.PortHost.TheLaws as hosts
use Rattle.mscp_memory.specs.contracts.driver.calls.place as f
use Rattle.mscp_memory.proofs.driver.calls.place.Statement.{statement}
use Rattle.mscp_memory.proofs.driver.calls.place.Code as code

-- what is room isn't made
not_made : (h : Handle) → is_room h ≡ true → is_made h ≡ false
not_made h e = unmade (is_made h) (nat_eq h.mark ROOM) (place_fault h.address h.length row_size row_alignment) e

-- what the memory is, by what its mark says
abbrev memory : Handle → Bool → Bool → Fml
memory h y z = if_fml y (lies_at T' full_share h.at h.held) (if_fml z (room_at T' h.at) ftrue)

abbrev Words : RattleType
Words = Struct (shape the_type)

abbrev word : Handle → List Val
word h = lowers.lowered h ∷ []

made_words : {M : Type 1} {𝓤 : Ura M} (𝓛 : Logic 𝓤) (h : Handle) → h.address < 2 ^ 64 → h.length < 2 ^ 64
    → h.mark < 2 ^ 64 → ent 𝓤 (emp 𝓤) (sem 𝓛 (Words.own_val (to the_type (inverse h)) (word h)))
made_words 𝓛 h a n m = makes_shadow 𝓛 (Words.own_val (to the_type (inverse h)) (word h))
    (λ _. (tt, (tt, ((tt, tt), ((tt, tt), ((tt, tt), tt)))))) (
      (ptr_val h.at ∷ [], (vint w64 h.address ∷ [], (vint w64 h.length ∷ [], (vint w64 h.mark ∷ [], tt)))),
      (refl, (refl, ((refl, a), ((refl, n), ((refl, m), tt))))),
    )

abbrev stayed : Stays f.ended.signature.params f.ended.kept
stayed = (stay_ref (0 ∷ []) tt (plain (λ _. R)), (stay_dropped (plain (λ _. T')) yes, tt))

pub place_spec : {M : Type 1} → statement M
place_spec 𝓤 𝓛 𝓜 𝓡 wired =
    let c = f.clauses 𝓛 𝓜.mem 𝓡.returns in let W = walk_of 𝓛 f.ended stayed c in let 𝓣 = tables 𝓤 𝓛.H 𝓜 𝓡 𝓡.env in
    proved_at 𝓛 f.ended stayed c 𝓜 𝓡 (
      Goes-ref 𝓛 1 0 tt (plain (λ _. R)),
      (Goes-dropped 𝓛 1 (plain (λ _. T')) yes (λ κs x w. refl), tt),
    )
    f.Key.name code.function (code.unfolded 𝓤 𝓛.H 𝓜 𝓡 wired) (λ y are.
    let κ = y.0.0.0 in let q = y.0.1.0 in let a = y.0.3 in let vss = y.0.4 in
    let b = a.0.ref_ptr.0 in let o = a.0.ref_ptr.1 in let h = a.0.now in let x = a.1.0 in
    let got = one (lone T'.mir) vss.1.0 ((hosts.the_row_laws.lawful 𝓛).typed x vss.1.0 are.1.0) in
    let v : Val = got.0 in let good = got.2 in
    qed 𝓛 (((‵ (flft κ q) ⊛ ‵ ftrue) ⊛ ‵ ((MutRef (named 0) κ R).own_val a.0 vss.0) ⊛ ‵ (T'.own_val x vss.1.0) ⊛ ‵
    ftrue) ∷ raw (fact 𝓤 (is_room h ≡ true)) ∷ []) ∵ move ! (1 ∷ []) $ heard ! _ (λ room.
    split ! $ split ! $ move ! (2 ∷ []) $ split ! $ move ! (1 ∷ []) $ split ! $
    rewrite ! 0 (λ (us : List Val). ‵ (T'.own_val x us)) got.1 refl $ keep ! (2 ∷ 3 ∷ 0 ∷ []) $
    regoal ! (λ (us : List Val). prop (WpFn 𝓤 𝓛.H 𝓣.C 𝓣.Λ code.function us (W.post y)))
    (λ i. are.0.0 i ++ (got.1 i ++ [])) refl $
    enter ! _ _ _ _ _ $ alloc_all ! (λ l. pass_all ! refl ((tt, tt), (good, tt)) $
    fsplit3 ! $ move ! (1 ∷ 2 ∷ 3 ∷ []) $ opens ! tt R b o (λ us.
    move ! (1 ∷ []) $ peeks ! R _ (shows 𝓛 R) h us
    (λ is. fsplit ! $ move ! (1 ∷ []) $ drop ! $ fsplit ! $
    facts ! Words _ (shows 𝓛 Words) (to the_type (inverse h)) us (λ s.
    rewrite ! 0 (λ (z : Bool). ‵ (memory h z (is_room h))) (not_made h room) refl $ rewrite ! 0
    (λ (z : Bool). ‵ (memory h false z)) room refl $
    in_a_block ! h.at (λ p. room_at T' p) (id⊢ 𝓤 _) (λ b' o' e.
    let w = lowers.val_is h us is ∙ ap (λ (p : Ptr). word (record h { at = p })) e in
    let Cell = λ (ws : List Val). ‵ (cell_at full_share R.mir ws b o) in
    rewrite ! 1 Cell w refl $
    -- [the room; the struct's cell; the open borrow, in three entries; what `handle` is; what the host owns]
    first ! $ blocks ! $
    sets ! (of_opd ! (load ! (through ! refl (fld ! refl (stop !))) (look_in ! 1 (sub ! 0 refl (whole !))))) refl
    (tt, tt) $
    sets ! (of_opd ! (get ! refl)) refl (tt, tt) $
    assigns_last ! (of_opd ! (get ! refl)) (through ! refl (stop !)) (init ! 0 refl good) $
    exec ! 𝓣.C 𝓣.Λ (env code.Mir.locals l) (after 1 (code.function).body) (at_ret _ (W.post y)) $
    assigns ! (of_opd ! (big_lit ! (record { fits = lit< tt }))) (through ! refl (fld ! refl (stop !)))
    (store_in ! 1 (sub ! 3 refl (whole !)) (tt, record { fits = lit< tt })) $
    sets ! (of_opd ! (unit_lit !)) refl (tt, tt) $
    -- [the host's bytes; the struct's cell; the open borrow, in three entries; what `handle` is; what the host owns]
    let g = placed h x in
    move ! (0 ∷ 6 ∷ []) $ use2 𝓛 (‵ (lies_at T' full_share (block_ptr b' o') x))
    (part_in 𝓛 T' refl full_share x b' o' v) $
    rewrite ! 0 (λ (p : Ptr). ‵ (lies_at T' full_share p x)) (sym e) refl $
    rewrite ! 1 Cell (sym (ap (λ (p : Ptr). word (record g { at = p })) e)) refl $
    use0 𝓛 (‵ (Words.own_val (to the_type (inverse g)) (word g))) (made_words 𝓛 g s.1.1.1.0.1 s.1.1.1.1.0.1 (lit< tt)) $
    fjoin ! $ use0 𝓛 (‵ ftrue) (makes_shadow 𝓛 ftrue tt tt) $
    fpack ! _ (λ (z : (g ≡ g) × Unit {0}). ftrue) (refl, tt) $
    move ! (1 ∷ 0 ∷ []) $ fjoin ! $
    move ! (1 ∷ []) $ closes ! tt R g (word g) b o $
    returns ! (look_at ! 0 refl) $ free_all ! refl $ move ! (3 ∷ []) $
    suffices ! _ (ends_at 𝓛 f.ended stayed c y vunit tt (g, (tt, tt)) (tt, (tt, tt))) $ says ! refl $
    group ! 3 $ nothing ! $ nothing ! $ join ! $ move ! (1 ∷ 0 ∷ []) $ join ! $ nothing ! $ move ! (2 ∷ 0 ∷ []) $ join !
    $ frame ! $ frame ! $
    feq_i ! _ (vunit ∷ []) _ refl $ done !)))))))
