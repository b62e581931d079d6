-- Both interpreters, step by step along one path.
use Rattle.std.proofs.Common.{ℕ, zero, suc, ◌≡◌, ◌+◌, ◌<◌, Bool, true, false, cond, None, Some, List, [], ◌∷◌, length, refl, sym, ap, arith, nat_eq, subst}
use Rattle.std.proofs.Common.{◌∙◌, eqb-true}
use Rattle.std.specs.Prelude.{Option, nat_lt, option_map, option_and_then}
use Rattle.std.proofs.lemmas.Bool.{ltb-true, and_parts}
use Rattle.regalloc2_names.specs.Register.{VirtualRegister}
use Rattle.regalloc2_names.specs.declared.OperandPos.{OperandPos}
use Rattle.regalloc2_names.specs.declared.OperandPos.TheVariants.{Early, Late}
use Rattle.regalloc2_names.specs.Operand.{OperandValue, is_late, is_reading}
use Rattle.regalloc2_names.specs.Place.{Place}
use Rattle.regalloc2_function.specs.FunctionValue.{FunctionValue, block_at, inst_at, op_at}
use Rattle.regalloc2_function.specs.OutputValue.{OutputValue, allocs_of, place_at}
use Rattle.regalloc2_semantics.specs.Runs.{Way, Onward, ToSuccessor, Location, end_of, next_of, last_inst, IsPath, HasWay, Stamp, read_of, source_before, source_after, source_read, after_moves, after_writes, moves_at, cells_early, cells_late, cells_before, after_clobbers, over_edge, write_at}
use Rattle.regalloc2_semantics.specs.Laws.{ReadsAgree}
use Rattle.regalloc2_semantics.specs.Interpreters.{History, InstMeaning, State, read_by, is_late_use, edge_to, way_on, vreg_reads, source_told, vreg_written}
use Rattle.regalloc2_semantics.specs.Interpreters.{source_step, source_run, place_found, place_reads, place_told, place_step, place_run}
use Rattle.regalloc2_semantics.specs.Alike.{AreAlike, HaveRunAlike, ReadsEarlier, FaithfulRunAlike, WellFormedRunAlike}
use Rattle.regalloc2_semantics.specs.Laws.{AgreeingReadsFindEarlier, Cells}
use Rattle.regalloc2_semantics.proofs.ValuesLemmas.Standing.{Stands, HoldNumbers, moves_stand, early_stand, writes_stand, clobbers_stand, defs_hold}
use Rattle.regalloc2_semantics.proofs.ValuesLemmas.Standing.{edge_holds, Made, more, still, newest, before_defs, before_writes, before_clobbers}

-- if two assignments of numbers agree at each operand that is read, the lists of the numbers read are equal
same_reads : (is_read : OperandValue → Bool) (a b : ℕ → OperandValue → ℕ) (n : ℕ) (os : List OperandValue) →
    ((k : ℕ) → k < length os → is_read (op_at os k) ≡ true → a (k + n) (op_at os k) ≡ b (k + n) (op_at os k)) →
    read_by is_read a n os ≡ read_by is_read b n os
unfolding read_by
same_reads is_read a b n [] h = refl
same_reads is_read a b n (o ∷ os) h =
    let z : 0 + n ≡ n = omega arith in
    pick (is_read o) (λ yes. rw z at (h 0 (omega arith) yes))
    (same_reads is_read a b (n + 1) os (λ k less yes. let s : suc k + n ≡ k + (n + 1) = omega arith in rw s at (h (suc k) (omega arith) yes)))
  where
    pick : (q : Bool) → (q ≡ true → a n o ≡ b n o) → read_by is_read a (n + 1) os ≡ read_by is_read b (n + 1) os →
        cond q (a n o ∷ read_by is_read a (n + 1) os) (read_by is_read a (n + 1) os)
        ≡ cond q (b n o ∷ read_by is_read b (n + 1) os) (read_by is_read b (n + 1) os)
    pick true t is = rw (t refl, is) refl
    pick false t is = is

-- the number that each write of a path made; vregs and places hold the numbers of their writes
record Told (f : FunctionValue) (out : OutputValue) (ws : List Way) (e : VirtualRegister → ℕ) (m : Place → ℕ) : Type 0 where
  number : Stamp → ℕ
  holds : HoldNumbers (Made (length ws) number) (source_before f ws) e
  stands : Stands (Made (length ws) number) (cells_before f out ws) m

-- the write that a use reads, where it is before the instruction writes, and that it stays there if the use is late
record Found (f : FunctionValue) (out : OutputValue) (ws : List Way) (o : OperandValue) (p : Place) : Type 0 where
  stamp : Stamp
  earlier : stamp.step < length ws
  source : source_before f ws o.vreg ≡ Some stamp
  cell : cells_early f out (end_of f ws) (cells_before f out ws) p ≡ Some stamp
  source_late : is_late o.position ≡ true → source_after f ws o.vreg ≡ Some stamp
  cell_late : is_late o.position ≡ true → cells_late f out (end_of f ws) (length ws) (cells_early f out (end_of f ws) (cells_before f out ws)) p ≡ Some stamp

found : (f : FunctionValue) (out : OutputValue) (ws : List Way) (o : OperandValue) (p : Place) (pos : OperandPos) (s : Stamp) → o.position ≡ pos →
    s.step < length ws →
    source_read f ws o ≡ Some s →
    read_of o.position (cells_early f out (end_of f ws) (cells_before f out ws) p)
    (cells_late f out (end_of f ws) (length ws) (cells_early f out (end_of f ws) (cells_before f out ws)) p) ≡ Some s → Found f out ws o p
found f out ws o p Early s is less a b =
    let e : is_late o.position ≡ false = ap is_late is in
    let a' = rw is at a in
    let b' = rw is at b in
    record { stamp = s; earlier = less; source = a'; cell = b'; source_late = λ yes. absurd cc; cell_late = λ yes. absurd cc }
found f out ws o p Late s is less a b =
    let a' : source_after f ws o.vreg ≡ Some s = rw is at a in
    let b' = rw is at b in
    record {
      stamp = s;
      earlier = less;
      source = before_defs (length ws) 0 _ _ _ s less a';
      cell = before_writes _ (length ws) 0 _ _ p s less (before_clobbers _ _ p s b');
      source_late = λ yes. a';
      cell_late = λ yes. b';
    }

-- a write has one number
one_number : (n : ℕ) (number : Stamp → ℕ) (s : Stamp) (x y : ℕ) → Made n number s x → Made n number s y → x ≡ y
one_number n number s x y a b = a.1 ∙ sym b.1

-- the edge that a run takes is one of the function's
edge_is_there : (f : FunctionValue) (l : Location) (taken : Option ℕ) (w : Way) → l.inst + 1 ≡ (block_at f l.block).range.end →
    edge_to (length (block_at f l.block).succs) taken ≡ Some w → HasWay f l w
edge_is_there f l None w end e = absurd cc
edge_is_there f l (Some k) w end e = pick (nat_lt k (length (block_at f l.block).succs)) refl e
  where
    pick : (b : Bool) → nat_lt k (length (block_at f l.block).succs) ≡ b → cond b (Some (ToSuccessor k)) None ≡ Some w → HasWay f l w
    pick true less g = let i : ToSuccessor k ≡ w = cc in subst (λ (x : Way). HasWay f l x) i (end, ltb-true _ _ less)
    pick false less g = absurd cc

way_is_there : (f : FunctionValue) (l : Location) (taken : Option ℕ) (w : Way) → way_on f l taken ≡ Some w → HasWay f l w
way_is_there f l taken w e = pick (nat_lt (l.inst + 1) (block_at f l.block).range.end) (nat_eq (l.inst + 1) (block_at f l.block).range.end) refl refl e
  where
    pick : (a b : Bool) → nat_lt (l.inst + 1) (block_at f l.block).range.end ≡ a → nat_eq (l.inst + 1) (block_at f l.block).range.end ≡ b →
        cond a (Some Onward) (cond b (edge_to (length (block_at f l.block).succs) taken) None) ≡ Some w → HasWay f l w
    pick true b less same g = let i : Onward ≡ w = cc in subst (λ (x : Way). HasWay f l x) i (ltb-true _ _ less)
    pick false true less same g = edge_is_there f l taken w (eqb-true _ _ same) g
    pick false false less same g = absurd cc

module _ (f : FunctionValue) (out : OutputValue) (meaning : InstMeaning) (noise : History → Place → ℕ) where
  -- the states of both runs at the end of a path
  abbrev source_at : List Way → History → (VirtualRegister → ℕ) → State VirtualRegister
  source_at ws h e = record { at = end_of f ws; history = h; numbers = e }

  abbrev place_at_end : List Way → History → (Place → ℕ) → State Place
  place_at_end ws h m = record { at = end_of f ws; history = h; numbers = m }

  -- the writes that the uses at the end of a path read
  abbrev AllFound : List Way → Type 0
  AllFound ws = (k : ℕ) → k < length (last_inst f ws).operands → is_reading (op_at (last_inst f ws).operands k) ≡ true →
      Found f out ws (op_at (last_inst f ws).operands k) (place_at (allocs_of out (end_of f ws).inst) k)

  all_found : (ws : List Way) → ReadsEarlier f → IsPath f ws → ReadsAgree f out ws → AllFound ws
  all_found ws early p r k less reads =
      let h = early ws p k less reads in
      let o : OperandValue = op_at (last_inst f ws).operands k in
      found f out ws o (place_at (allocs_of out (end_of f ws).inst) k) o.position h.0 refl h.2 h.1 ((r k less reads).1 ∙ h.1)

  module _ (ws : List Way) (h : History) (e : VirtualRegister → ℕ) (m : Place → ℕ) (t : Told f out ws e m) (fs : AllFound ws) where
    abbrev ops : List OperandValue
    ops = (last_inst f ws).operands

    abbrev places : List Place
    places = allocs_of out (end_of f ws).inst

    found_stand : Stands (Made (length ws) t.number) (cells_early f out (end_of f ws) (cells_before f out ws))
        (place_found f out meaning noise (place_at_end ws h m))
    found_stand = early_stand (Made (length ws) t.number) (noise h) places 0 ops (after_moves (moves_at f out (end_of f ws)) (cells_before f out ws))
        (after_moves (moves_at f out (end_of f ws)) m)
        (moves_stand (Made (length ws) t.number) (moves_at f out (end_of f ws)) (cells_before f out ws) m t.stands)

    reads_alike : place_reads f out meaning noise (place_at_end ws h m) ≡ vreg_reads f meaning (source_at ws h e)
    reads_alike = same_reads is_reading _ _ 0 ops (λ k less yes.
        let u = fs k less yes in
        let z : k + 0 ≡ k = omega arith in
        rw z (one_number (length ws) t.number u.stamp _ _ (found_stand _ _ u.cell) (t.holds _ _ u.source)))

    told_alike : place_told f out meaning noise (place_at_end ws h m) ≡ source_told f meaning (source_at ws h e)
    told_alike = rw reads_alike refl

    -- the history with what is read there, and which numbers the writes have made
    abbrev told : History
    told = source_told f meaning (source_at ws h e)

    abbrev numbered : Stamp → ℕ
    numbered = more (length ws) (meaning.writes told) t.number

    -- the places' numbers after the instruction, given that history
    abbrev written_at : History → Place → ℕ
    written_at x = after_clobbers (inst_at f (end_of f ws).inst).clobbers (noise x)
        (after_writes (meaning.writes x) places 0 ops (place_found f out meaning noise (place_at_end ws h m)))

    later_stand : Stands (Made (length ws + 1) numbered) (cells_late f out (end_of f ws) (length ws) (cells_early f out (end_of f ws) (cells_before f out ws)))
        (written_at told)
    later_stand =
        let cells : Cells = cells_early f out (end_of f ws) (cells_before f out ws) in
        let place : Place → ℕ = place_found f out meaning noise (place_at_end ws h m) in
        clobbers_stand (Made (length ws + 1) numbered) (inst_at f (end_of f ws).inst).clobbers (noise told) (after_writes (write_at (length ws)) places 0 ops cells)
        (after_writes (meaning.writes told) places 0 ops place)
        (writes_stand (Made (length ws + 1) numbered) (meaning.writes told) places (length ws) 0 ops cells place
        (newest (length ws) (meaning.writes told) t.number)
        (λ q s x. still (length ws) (meaning.writes told) t.number s (place q) (found_stand q s x)))

    later_hold : HoldNumbers (Made (length ws + 1) numbered) (source_after f ws) (vreg_written f meaning (source_at ws h e))
    later_hold = defs_hold (Made (length ws + 1) numbered) (meaning.writes told) (length ws) 0 ops (source_before f ws) e
        (newest (length ws) (meaning.writes told) t.number)
        (λ v s x. still (length ws) (meaning.writes told) t.number s (e v) (t.holds v s x))

    late_at : read_by is_late_use (λ k o. written_at told (place_at places k)) 0 ops
        ≡ read_by is_late_use (λ k o. vreg_written f meaning (source_at ws h e) o.vreg) 0 ops
    late_at = same_reads is_late_use _ _ 0 ops (λ k less yes.
        let both = and_parts _ _ yes in
        let u = fs k less both.0 in
        let z : k + 0 ≡ k = omega arith in
        rw z (one_number (length ws + 1) numbered u.stamp _ _ (later_stand _ _ (u.cell_late both.1)) (later_hold _ _ (u.source_late both.1))))

    still_at : read_by is_late_use (λ k o. vreg_written f meaning (source_at ws h e) o.vreg) 0 ops ≡ read_by is_late_use (λ k o. e o.vreg) 0 ops
    still_at = same_reads is_late_use _ _ 0 ops (λ k less yes.
        let both = and_parts _ _ yes in
        let u = fs k less both.0 in
        one_number (length ws + 1) numbered u.stamp _ _ (later_hold _ _ (u.source_late both.1))
        (still (length ws) (meaning.writes told) t.number u.stamp _ (t.holds _ _ u.source)))

    are_alike : AreAlike f out meaning noise (source_at ws h e) (place_at_end ws h m)
    are_alike = record {
      at = refl;
      history = refl;
      reads = reads_alike;
      late = subst (λ (x : History). read_by is_late_use (λ k o. written_at x (place_at places k)) 0 ops
          ≡ read_by is_late_use (λ k o. vreg_written f meaning (source_at ws h e) o.vreg) 0 ops) (sym told_alike) late_at;
      still = still_at;
    }

    -- one step further
    told_on : (w : Way) → Told f out (w ∷ ws) (over_edge f (end_of f ws) w (vreg_written f meaning (source_at ws h e))) (written_at told)
    unfolding source_before cells_before
    told_on w =
        let len : suc (length ws) ≡ length ws + 1 = omega arith in
        record {
          number = numbered;
          holds = rw len (edge_holds (Made (length ws + 1) numbered) f (end_of f ws) w (source_after f ws)
              (vreg_written f meaning (source_at ws h e)) later_hold);
          stands = rw len later_stand;
        }

  -- both runs are at the end of one path, with the same history, or have ended
  data Along : Option (State VirtualRegister) → Option (State Place) → Type 0 where
    ended : Along None None
    at_path : (ws : List Way) (h : History) (e : VirtualRegister → ℕ) (m : Place → ℕ) → IsPath f ws → Told f out ws e m → AllFound ws →
        Along (Some (source_at ws h e)) (Some (place_at_end ws h m))

  module _ (all : (ws : List Way) → IsPath f ws → AllFound ws) where
    on_from : (ws : List Way) (h : History) (e : VirtualRegister → ℕ) (m : Place → ℕ) → IsPath f ws → Told f out ws e m →
        Along (source_step f meaning (source_at ws h e)) (place_step f out meaning noise (place_at_end ws h m))
    on_from ws h e m p t =
        let fs = all ws p in
        let l : Location = end_of f ws in
        let x : History = source_told f meaning (source_at ws h e) in
        subst (λ (y : History). Along (source_step f meaning (source_at ws h e))
        (option_map (λ w. record { at = next_of f l w; history = y; numbers = written_at ws h e m t fs y }) (way_on f l (meaning.takes y))))
        (sym (told_alike ws h e m t fs)) (pick (way_on f l (meaning.takes x)) refl)
      where
        pick : (o : Option Way) → way_on f (end_of f ws) (meaning.takes (source_told f meaning (source_at ws h e))) ≡ o →
            Along (option_map (λ w. record {
              at = next_of f (end_of f ws) w;
              history = source_told f meaning (source_at ws h e);
              numbers = over_edge f (end_of f ws) w (vreg_written f meaning (source_at ws h e));
            }) o)
            (option_map (λ w. record {
              at = next_of f (end_of f ws) w;
              history = source_told f meaning (source_at ws h e);
              numbers = written_at ws h e m t (all ws p) (source_told f meaning (source_at ws h e));
            }) o)
        pick None g = ended
        pick (Some w) g =
            let q : IsPath f (w ∷ ws) = (p, way_is_there f (end_of f ws) _ w g) in
            at_path (w ∷ ws) _ _ _ q (told_on ws h e m t (all ws p) w) (all (w ∷ ws) q)

    on_step : (x : Option (State VirtualRegister)) (y : Option (State Place)) → Along x y →
        Along (option_and_then (source_step f meaning) x) (option_and_then (place_step f out meaning noise) y)
    on_step x y ended = ended
    on_step x y (at_path ws h e m p t fs) = on_from ws h e m p t

    along : (virtual : VirtualRegister → ℕ) (held : Place → ℕ) (n : ℕ) → Along (source_run f meaning virtual n) (place_run f out meaning noise held n)
    unfolding source_run place_run source_before cells_before
    along virtual held zero = at_path [] [] virtual held tt (record { number = λ s. 0; holds = λ v s e. absurd cc; stands = λ q s e. absurd cc }) (all [] tt)
    along virtual held (suc n) = on_step _ _ (along virtual held n)

  alike : (x : Option (State VirtualRegister)) (y : Option (State Place)) → Along x y → HaveRunAlike f out meaning noise x y
  alike x y ended = tt
  alike x y (at_path ws h e m p t fs) = are_alike ws h e m t fs

pub faithful_run_alike : FaithfulRunAlike
faithful_run_alike f env out early ok meaning noise virtual held n =
    let all : (ws : List Way) → IsPath f ws → AllFound f out meaning noise ws = λ ws p. all_found f out meaning noise ws early p (ok.reads ws p) in
    alike f out meaning noise _ _ (along f out meaning noise all virtual held n)

pub well_formed_run_alike : AgreeingReadsFindEarlier → WellFormedRunAlike
well_formed_run_alike law f env out well ok = faithful_run_alike f env out (law env f out well ok.reads) ok
