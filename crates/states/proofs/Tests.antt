-- What the tests of a state and of the lent lengths say, once they have passed. Assumes nothing.
use mathlib.Core.Path.{◌≡◌, refl, ap}
use mathlib.Core.Bool.{Bool, true, false, ◌&&◌, ◌||◌, cond, true≢false, false≢true}
use mathlib.Core.List.{List}
use Prim.Native.Nat.{ℕ, zero, suc, ◌+◌, ◌-◌, ◌*◌, ◌≤◌}
use native.Mathlib.Nat.{le_trans, mul-le-mul_right}
use native.Mathlib.Omega.{arith}
use lib.Dec.{leb, eqb}
use borrow.Author.Tests.{leb-true, eqb-true}
use Rattle.states.specs.declared.Tally.{Tally}
use Rattle.states.specs.declared.State.{State}
use Rattle.states.specs.declared.Depths.{Depths}
use Rattle.states.specs.declared.Top.{Top}
use Rattle.states.specs.declared.StepError.{StepError}
use Rattle.states.specs.declared.StepError.TheVariants.{Ended, NoRoom}
use Rattle.std.proofs.Common.{Result, Ok, Err}
use Rattle.states.specs.States.{Sizes, needed, enough, enough_own, top_fits, search_with, top_depth, is_zero, over, top_of, allowance_of, records_of}

-- ---- both halves of a test
pub and_first : (a b : Bool) → a && b ≡ true → a ≡ true
and_first true b e = refl
and_first false b e = e

pub and_second : (a b : Bool) → a && b ≡ true → b ≡ true
and_second true b e = e
and_second false b e = absurd (false≢true e)

-- ---- a search that hasn't ended
or_first : (a b : Bool) → a || b ≡ false → a ≡ false
or_first true b e = e
or_first false b e = refl

or_second : (a b : Bool) → a || b ≡ false → b ≡ false
or_second true b e = absurd (true≢false e)
or_second false b e = e

zero_no : (n : ℕ) → is_zero n ≡ false → 1 ≤ n
zero_no zero e = absurd (true≢false e)
zero_no (suc n) e = omega arith

pub waits : (t : Tally) → over t ≡ false → 1 ≤ t.waiting
waits t e = zero_no t.waiting (or_second t.stopped (is_zero t.waiting) e)

-- ---- what the six tests say
pub record Sound (t : Tally) (d : Depths) : Type 0 where
  pub top : t.waiting ≤ t.pairs + (d.first + d.second)
  pub deep1 : d.first ≤ 32
  pub deep2 : d.second ≤ 32
  pub balance : t.pairs + t.splits ≡ t.settled + t.given + t.waiting
  pub allowance : t.splits + t.unspent ≡ allowance_of t
  pub tags : t.settled ≡ t.boxes + t.planes + t.lines
  pub seen : t.visits ≤ t.splits + t.settled + t.given + 1

top_is : (P n : ℕ) (d : Depths) → 1 ≤ n → top_fits P n d ≡ true → (n ≤ P + (d.first + d.second)) × (d.first ≤ 32) × (d.second ≤ 32)
top_is P zero d h e = absurd (omega arith)
top_is P (suc n) d h e =
    let b1 = leb (suc n) (P + (d.first + d.second)) in
    let b2 = leb d.first 32 in
    let b3 = leb d.second 32 in
    let f = and_second b1 (b2 && b3) e in
    (leb-true (suc n) (P + (d.first + d.second)) (and_first b1 (b2 && b3) e), leb-true d.first 32 (and_first b2 b3 f), leb-true d.second 32 (and_second b2 b3 f))

pub sound : (t : Tally) (d : Depths) → 1 ≤ t.waiting → search_with t d ≡ true → Sound t d
sound t d h e =
    let b1 = top_fits t.pairs t.waiting d in
    let b2 = eqb (t.pairs + t.splits) (t.settled + t.given + t.waiting) in
    let b3 = eqb (t.splits + t.unspent) (allowance_of t) in
    let b4 = eqb t.settled (t.boxes + t.planes + t.lines) in
    let b5 = leb t.visits (t.splits + t.settled + t.given + 1) in
    let e2 = and_second b1 (b2 && (b3 && (b4 && b5))) e in
    let e3 = and_second b2 (b3 && (b4 && b5)) e2 in
    let e4 = and_second b3 (b4 && b5) e3 in
    let top = top_is t.pairs t.waiting d h (and_first b1 (b2 && (b3 && (b4 && b5))) e) in
    record {
      top = top.0;
      deep1 = top.1;
      deep2 = top.2;
      balance = eqb-true _ _ (and_first b2 (b3 && (b4 && b5)) e2);
      allowance = eqb-true _ _ (and_first b3 (b4 && b5) e3);
      tags = eqb-true _ _ (and_first b4 b5 e4);
      seen = leb-true _ _ (and_second b4 b5 e4);
    }

-- slots of n numbers: so many fit as nodes wait, of a list with room for P + 64
pub slots_fit : (P k n len : ℕ) → k ≤ P + 64 → (P + 64) * n ≤ len → k * n ≤ len
slots_fit P k n len h r = le_trans (mul-le-mul_right n h) r

-- ---- the room of an own verdict, and of a step
pub record RoomOwn (x : State) (s : Sizes) : Type 0 where
  pub nets1 : (x.tally.pairs + 64) * (4 * x.width1) ≤ s.nets1
  pub nets2 : (x.tally.pairs + 64) * (4 * x.width2) ≤ s.nets2
  pub depths : (x.tally.pairs + 64) * 2 ≤ s.depths

pub room_own : (x : State) (s : Sizes) → enough_own (needed x) s ≡ true → RoomOwn x s
room_own x s e =
    let b1 = leb ((x.tally.pairs + 64) * (4 * x.width1)) s.nets1 in
    let b2 = leb ((x.tally.pairs + 64) * (4 * x.width2)) s.nets2 in
    let b3 = leb ((x.tally.pairs + 64) * 2) s.depths in
    record {
      nets1 = leb-true _ _ (and_first b1 (b2 && b3) e);
      nets2 = leb-true _ _ (and_first b2 b3 (and_second b1 (b2 && b3) e));
      depths = leb-true _ _ (and_second b2 b3 (and_second b1 (b2 && b3) e));
    }

pub top_slot : (x : State) (d : Depths) (n len : ℕ) → over x.tally ≡ false → search_with x.tally d ≡ true → (x.tally.pairs + 64) * n ≤ len → (x.tally.waiting - 1 + 1) * n ≤ len
top_slot x d n len o e r =
    let w = waits x.tally o in
    let s = sound x.tally d w e in
    let k : x.tally.waiting - 1 + 1 ≤ x.tally.pairs + 64 = (let a = s.top in let b = s.deep1 in let c = s.deep2 in omega arith) in
    slots_fit x.tally.pairs (x.tally.waiting - 1 + 1) n len k r

pub record RoomAll (x : State) (s : Sizes) : Type 0 where
  pub nets1 : (x.tally.pairs + 64) * (4 * x.width1) ≤ s.nets1
  pub nets2 : (x.tally.pairs + 64) * (4 * x.width2) ≤ s.nets2
  pub ranges : (x.tally.pairs + 64) * 4 ≤ s.ranges
  pub depths : (x.tally.pairs + 64) * 2 ≤ s.depths
  pub raw : records_of x.tally * 10 ≤ s.raw

pub enough_own_lem : (need have : Sizes) → enough need have ≡ true → enough_own need have ≡ true
enough_own_lem need have e = and_first (enough_own need have) _ e

pub room_all : (x : State) (s : Sizes) → enough (needed x) s ≡ true → RoomAll x s
room_all x s e =
    let b4 = leb ((x.tally.pairs + 64) * 4) s.ranges in
    let b5 = leb (records_of x.tally * 10) s.raw in
    let own = room_own x s (enough_own_lem (needed x) s e) in
    let e4 = and_second (enough_own (needed x) s) (b4 && b5) e in
    record {
      nets1 = own.nets1;
      nets2 = own.nets2;
      ranges = leb-true _ _ (and_first b4 b5 e4);
      depths = own.depths;
      raw = leb-true _ _ (and_second b4 b5 e4);
    }

pub one_more : (n : ℕ) → 1 ≤ n → n ≡ suc (n - 1)
one_more n h = omega arith

-- ---- what `top_node` answers, and what its answer says
abbrev top_with : Tally → Depths → Bool → Bool → Result Top StepError
top_with t d o s = cond o (Err Ended) (cond s (Ok (record { place = t.waiting - 1; depth = d })) (Err NoRoom))

module _ (t : Tally) (room : Bool) (depths : List ℕ) where
  abbrev d : Depths
  d = top_depth t.waiting depths

  pub top_ended : Err Ended ≡ top_of t room depths → over t ≡ true
  top_ended e = go (over t) (room && search_with t d) e
    where
      go : (o s : Bool) → Err Ended ≡ top_with t d o s → o ≡ true
      go true s e = refl
      go false true e = absurd (let z : ◌≡◌ {A = ℕ} 0 1 = cc in omega arith)
      go false false e = absurd (let z : ◌≡◌ {A = ℕ} 0 1 = cc in omega arith)

  pub top_refused : Err NoRoom ≡ top_of t room depths → (over t ≡ false) × (room && search_with t d ≡ false)
  top_refused e = go (over t) (room && search_with t d) e
    where
      go : (o s : Bool) → Err NoRoom ≡ top_with t d o s → (o ≡ false) × (s ≡ false)
      go true s e = absurd (let z : ◌≡◌ {A = ℕ} 0 1 = cc in omega arith)
      go false true e = absurd (let z : ◌≡◌ {A = ℕ} 0 1 = cc in omega arith)
      go false false e = (refl, refl)

  pub top_node_lem : (w : Top) → Ok w ≡ top_of t room depths → (over t ≡ false) × (room ≡ true) × (search_with t d ≡ true) × (w.place ≡ t.waiting - 1) × (w.depth ≡ d)
  top_node_lem w h =
      let g = go (over t) (room && search_with t d) h in
      (g.0, and_first room (search_with t d) g.1, and_second room (search_with t d) g.1, ap (λ (v : Top). v.place) g.2, ap (λ (v : Top). v.depth) g.2)
    where
      go : (o s : Bool) → Ok w ≡ top_with t d o s → (o ≡ false) × (s ≡ true) × (w ≡ record { place = t.waiting - 1; depth = d })
      go true s e = absurd (let z : ◌≡◌ {A = ℕ} 0 1 = cc in omega arith)
      go false true e = (refl, refl, cc)
      go false false e = absurd (let z : ◌≡◌ {A = ℕ} 0 1 = cc in omega arith)
