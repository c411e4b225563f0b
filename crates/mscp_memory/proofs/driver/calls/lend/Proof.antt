-- `lend` lends what lies in the memory of a handle. Assumes `Logic`.
use Rattle.mscp_memory.proofs.Common.{◌≡◌, ℕ, List, [], ◌∷◌, refl, sym, ap, ◌∙◌, MutBor, proved, after, full_share, ent, sep, id⊢, GName, Fml, fsep, ftrue, flft, Bool, true, fact, named, Val, vptr, Ura, tables, Logic, sem, ‵, raw, ◌⊛◌, some, later, at_ret, ◌$◌, ◌∵◌, !, qed, done, move, keep, drop, use0, use1, split, join, fsplit, fsplit3, fjoin, fpack, pick, await, rewrite, suffices, frame, group, by, enter, of_opd, addr, load, stop, fld, first, blocks, exec, returns, alloc_all, pass_all, free_all, look_at, get, through, sets, sets_last, env, whole, sub, look_in, no, shows, makes_shadow, mem, cell_at, part_of, Ptr, block_ptr, lies_at, room_at, in_a_block, MutRef, mut_vals, mut_Tells, plain, mut_ref_to, nothing, heard, opens, peeks, follows, Part, lends_Part, shape, to, Struct, Stays, walk_of, says, stay_dropped, Goes-spent_ref, ends_at, if_fml}
use Rattle.mscp_memory.specs.DriverHandles.{Handle, is_made, is_room, row as T, with_held}
use Rattle.mscp_memory.specs.contracts.driver.calls.lend as f
use Rattle.mscp_memory.proofs.driver.calls.lend.Statement.{statement}
use Rattle.mscp_memory.proofs.driver.calls.lend.Code as code
use Rattle.mscp_memory.specs.declared.driver.handle.Handle.TheView.{inverse}
use Rattle.mscp_memory.specs.contracts.driver.handle.Handle.{the_row as R}
use Rattle.mscp_memory.specs.contracts.driver.handle.Handle.TheInside.{the_type}
use Rattle.mscp_memory.proofs.driver.handle.Handle.TheLaws.{lowers}

abbrev stayed : Stays f.ended.signature.params f.ended.kept
stayed = (stay_dropped (mut_ref_to (0 ∷ []) tt (plain (λ _. R))) no, tt)

-- what the memory is, by what its mark says
abbrev memory : Handle → Bool → Fml
memory h y = if_fml y (lies_at T full_share h.at h.held) (if_fml (is_room h) (room_at T h.at) ftrue)

-- all of the handle but the host
abbrev rest : Handle → List Val → ℕ → ℕ → Fml
rest h us b o = fsep ((Struct (shape the_type)).own_val (to the_type (inverse h)) us) (cell_at full_share R.mir us b o)

-- with any host there, it is the handle of that host
back : {M : Type 1} {𝓤 : Ura M} (𝓛 : Logic 𝓤) (h : Handle) (us : List Val) (b o b' o' : ℕ) → h.at ≡ block_ptr b' o'
    → is_made h ≡ true → (w : T.Denot) → ent 𝓤 (sep 𝓤 (sem 𝓛 ((mem T).own_at w b' o')) (sem 𝓛 (rest h us b o)))
    (sem 𝓛 ((mem R).own_at (with_held h w) b o))
unfolding part_of
back 𝓛 h us b o b' o' e made w =
    qed 𝓛 (‵ (lies_at T full_share (block_ptr b' o') w) ∷ ‵ (rest h us b o) ∷ []) ∵ rewrite ! 0
    (λ (p : Ptr). ‵ (lies_at T full_share p w)) (sym e) refl $ rewrite ! 0 (λ (y : Bool). ‵ (memory (with_held h w) y))
    (sym made) refl $ move ! (1 ∷ []) $ fsplit ! $ move ! (0 ∷ 2 ∷ 1 ∷ []) $ fjoin ! $ use0 𝓛 (‵ ftrue)
    (makes_shadow 𝓛 ftrue tt tt) $ fpack ! _ (λ (z : (with_held h w ≡ with_held h w) × Unit {0}). ftrue) (refl, tt) $
    move ! (1 ∷ 0 ∷ []) $ fjoin ! $ move ! (1 ∷ 0 ∷ []) $ fjoin ! $ fpack ! (List Val)
    (λ vs. fsep (cell_at full_share R.mir vs b o) (R.own_val (with_held h w) vs)) us $ done !

pub lend_spec : {M : Type 1} → statement M
lend_spec 𝓤 𝓛 𝓜 𝓡 wired =
    let c = f.clauses 𝓛 𝓜.mem 𝓡.returns in let W = walk_of 𝓛 f.ended stayed c in let 𝓣 = tables 𝓤 𝓛.H 𝓜 𝓡 𝓡.env in
    proved 𝓛 f.ended stayed c 𝓜 𝓡 (Goes-spent_ref 𝓛 1 (0 ∷ []) tt (plain (λ _. R)), tt)
    f.Key.name code.function (code.unfolded 𝓤 𝓛.H 𝓜 𝓡 wired)
    (λ κs. (mut_vals, tt)) (λ κs. (mut_Tells (named 0) κs.0 R, tt)) (λ κs qs bounds a _ are.
    let κ = κs.0 in let q = qs.0 in
    let b = a.0.ref_ptr.0 in let o = a.0.ref_ptr.1 in let γ = a.0.ghost_name in let h = a.0.now in let vs =
    mut_vals a.0 in
    let y : W.Ghost = ((κs, qs, bounds, a, (vs, tt)), tt) in
    qed 𝓛 (((‵ (flft κs.0 qs.0) ⊛ ‵ ftrue) ⊛ ‵ ((MutRef (named 0) κs.0 R).own_val a.0 vs) ⊛ ‵ ftrue)
    ∷ raw (fact 𝓤 (is_made h ≡ true)) ∷ []) ∵ move ! (1 ∷ []) $ heard ! _ (λ made.
    split ! $ split ! $ move ! (2 ∷ []) $ split ! $ keep ! (0 ∷ 2 ∷ []) $
    enter ! _ _ _ _ _ $ alloc_all ! (λ l. pass_all ! refl ((tt, tt), tt) $
    fsplit3 ! $ move ! (1 ∷ 2 ∷ 3 ∷ []) $ opens ! tt R b o (λ us.
    move ! (1 ∷ []) $ peeks ! R _ (shows 𝓛 R) h us (λ is.
    fsplit ! $ move ! (1 ∷ []) $ drop ! $ fsplit ! $ move ! (1 ∷ []) $
    rewrite ! 0 (λ (y : Bool). ‵ (memory h y)) made refl $
    in_a_block ! h.at (λ p. lies_at T full_share p h.held) (id⊢ 𝓤 _) (λ b' o' e.
    let word = lowers.val_is h us is ∙ ap (λ (p : Ptr). lowers.lowered (record h { at = p }) ∷ []) e in
    let Cell = λ (ws : List Val). ‵ (cell_at full_share R.mir ws b o) in
    rewrite ! 2 Cell word refl $
    -- [the host; what the fields own; the struct's cell; the open borrow, in three entries]
    first ! $ blocks ! $
    sets ! (of_opd ! (load ! (through ! refl (fld ! refl (stop !))) (look_in ! 2 (sub ! 0 refl (whole !))))) refl
    (tt, tt) $
    sets ! (of_opd ! (get ! refl)) refl (tt, tt) $
    sets_last ! (addr ! (through ! refl (stop !))) refl (tt, tt) $
    exec ! 𝓣.C 𝓣.Λ (env code.Mir.locals l) (after 1 (code.function).body) (at_ret _ (W.post y)) $
    sets ! (of_opd ! (get ! refl)) refl (tt, tt) $
    rewrite ! 2 Cell (sym word) refl $
    move ! (1 ∷ 2 ∷ []) $ fjoin ! $
    -- [the rest; the host; the open borrow, in three entries]
    move ! (2 ∷ 3 ∷ 4 ∷ 1 ∷ 0 ∷ []) $ group ! 5 $
    use1 𝓛 (later (some (λ (δ : GName). raw (Part 𝓛 R T (with_held h) (named 0) κ q b o b' o' γ (sem 𝓛 (rest h us b o))
    (back 𝓛 h us b o b' o' e made) h.held δ))))
    (lends_Part 𝓛 R T (with_held h) (named 0) κ q b o b' o' γ (sem 𝓛 (rest h us b o)) (back 𝓛 h us b o b' o' e made)
    (R.coded.code h) (R.coded.code h) h.held) $ await ! tt $ pick ! (λ δ.
    returns ! (look_at ! 0 refl) $ free_all ! refl $ keep ! (0 ∷ []) $
    by ! (
    let r : MutBor T.Denot = record { ref_ptr = (b', o'); ghost_name = δ; now = h.held } in
    qed 𝓛 (‵ ((MutRef (named 0) κ T).own_val r (vptr b' o' ∷ [])) ∷ ‵ (flft κ q) ∷ ‵ (follows R T γ δ (with_held h))
    ∷ []) ∵
    suffices ! _ (ends_at 𝓛 f.ended stayed c y (vptr b' o') r (tt, tt) (tt, tt)) $
    nothing ! $ nothing ! $ fjoin ! $ join ! $ nothing ! $ move ! (2 ∷ 0 ∷ []) $ join ! $ join ! $ frame ! $ says ! refl
    $ done !))))))))
