-- A slot's cell holds its level and its index in that level's array, also after its level changes.
use Rattle.std.proofs.Common.{◌≡◌, ℕ, ◌<◌, ◌-◌, ◌++◌, List, [], ◌∷◌, length, get_or, set, Option, Some, None, vec_capacity, vec_len, sym, ap, ◌∙◌, arith}
use Rattle.std.specs.List.{swap_remove}
use Rattle.std.specs.declared.vec.Vec.{Vec}
use Rattle.std.proofs.Math.Seq.{map-set_same}
use Rattle.std.proofs.lemmas.List.{get_or-map, get_or_default, length-map, length-set, map-set}
use Rattle.bm_base.specs.declared.replica.Level.{Level}
use Rattle.bm_base.specs.Machine.Levels.{level_number}
use Rattle.bm_queues.specs.declared.level_lists.Cell.{Cell}
use Rattle.bm_queues.specs.DenseLevels.{AreDense, HaveCapacity, seen, level_in, array_of, levels_in, indices_in, arrays_in}
use Rattle.bm_queues.proofs.LevelLaws.{level_below, last-below, left-dense, more-dense, capacity-for-one}
use Rattle.bm_queues.proofs.OneArray.{array-at, arrays-set, capacity-set}

pub long-cells : (cells : List Cell) → length (indices_in cells) ≡ length (levels_in cells)
long-cells cells = length-map cells (λ (c : Cell). c.index) ∙ sym (length-map cells (λ (c : Cell). c.level))

pub number-below : {Z : Type 0} (arrays : List (Vec ℕ Z)) → length (arrays_in arrays) ≡ 5 → (l : Level) (n : ℕ) → n ≡ level_number l → n < length arrays
number-below {Z} arrays five l n number = let low = level_below l in let len = length-map arrays (λ (v : Vec ℕ Z). v.items) in omega (arith, low, len, five, number)

-- the array of a level
module _ {Z : Type 0} (arrays : List (Vec ℕ Z)) (five : length (arrays_in arrays) ≡ 5) (l : Level) (n : ℕ) (number : n ≡ level_number l) (v : Vec ℕ Z) (at : v ≡ get_or arrays n v) where
  pub array-here : array_of (arrays_in arrays) l ≡ v.items
  array-here = ap (λ i. get_or (arrays_in arrays) i []) (sym number) ∙ array-at arrays n v (number-below arrays five l n number) at

  pub arrays-now : (w : Vec ℕ Z) (ys : List ℕ) → w.items ≡ ys → arrays_in (set arrays n w) ≡ set (arrays_in arrays) (level_number l) ys
  arrays-now w ys is =
      arrays-set arrays n v (number-below arrays five l n number) at w ∙ ap (λ i. set (arrays_in arrays) i w.items) number ∙ ap (set (arrays_in arrays) (level_number l)) is

module _ {Z : Type 0} (cells : List Cell) (arrays : List (Vec ℕ Z)) (are : AreDense (levels_in cells) (indices_in cells) (arrays_in arrays)) (slot : ℕ) (below : slot < length (levels_in cells)) where
  abbrev levels : List (Option Level)
  levels = levels_in cells

  abbrev indices : List ℕ
  indices = indices_in cells

  slot-below : slot < length cells
  slot-below = let len = length-map cells (λ (c : Cell). c.level) in omega (arith, below, len)

  module _ (cell : Cell) (read : cell ≡ get_or cells slot cell) where
    pub level-here : level_in (levels_in cells) slot ≡ cell.level
    level-here = get_or-map (λ (c : Cell). c.level) cells slot cell None slot-below ∙ ap (λ (c : Cell). c.level) (sym read)

    pub index-here : get_or (indices_in cells) slot 0 ≡ cell.index
    index-here = get_or-map (λ (c : Cell). c.index) cells slot cell 0 slot-below ∙ ap (λ (c : Cell). c.index) (sym read)

    -- the slot leaves its list
    module _ (l : Level) (is : cell.level ≡ Some l) (n : ℕ) (number : n ≡ level_number l) (v : Vec ℕ Z) (at : v ≡ get_or arrays n v) where
      abbrev xs : List ℕ
      xs = array_of (arrays_in arrays) l

      pub held : level_in levels slot ≡ Some l
      held = level-here ∙ is

      array : xs ≡ v.items
      array = array-here arrays are.five l n number v at

      pub index-below : cell.index < vec_len v
      index-below =
          let inside = are.inside l slot held in
          let len = ap length array in
          omega (arith, inside, len, index-here, v.ok.0)

      module _ (last : ℕ) (end : last ≡ get_or v.items (vec_len v - 1) last) where
        last-here : get_or xs (length xs - 1) 0 ≡ last
        last-here =
            let some = index-below in
            let same : length xs - 1 ≡ vec_len v - 1 = (let len = ap length array in omega (arith, len, v.ok.0)) in
            ap (λ ys. get_or ys (length xs - 1) 0) array ∙ ap (λ i. get_or v.items i 0) same
            ∙ get_or_default v.items (vec_len v - 1) 0 last (omega (arith, some, v.ok.0)) ∙ sym end

        pub last-fits : last < length cells
        last-fits =
            let low = last-below levels indices (arrays_in arrays) are slot l held in
            let len = length-map cells (λ (c : Cell). c.level) in
            omega (arith, low, len, last-here)

        module _ (first second : Cell) (no : Option Level) (none : no ≡ None) (old_last : first ≡ get_or cells last first)
            (old_slot : second ≡ get_or (set cells last (record { level = first.level; index = cell.index })) slot second) (w : Vec ℕ Z) (r : ℕ) (out : r ≡ get_or v.items cell.index r) (items : w.items ≡ swap_remove v.items cell.index r) where
          abbrev filled : List Cell
          filled = set cells last (record { level = first.level; index = cell.index })

          abbrev after : List Cell
          after = set filled slot (record { level = no; index = second.index })

          levels-now : levels_in after ≡ set levels slot None
          levels-now =
              map-set (λ (c : Cell). c.level) filled slot (record { level = no; index = second.index })
              ∙ ap (λ ls. set ls slot no) (map-set_same (λ (c : Cell). c.level) cells last (record { level = first.level; index = cell.index }) first (ap (λ (c : Cell). c.level) old_last))
              ∙ ap (set levels slot) none

          indices-now : indices_in after ≡ set indices (get_or xs (length xs - 1) 0) (get_or indices slot 0)
          indices-now =
              map-set_same (λ (c : Cell). c.index) filled slot (record { level = no; index = second.index }) second (ap (λ (c : Cell). c.index) old_slot)
              ∙ map-set (λ (c : Cell). c.index) cells last (record { level = first.level; index = cell.index })
              ∙ ap (λ i. set indices i cell.index) (sym last-here) ∙ ap (set indices (get_or xs (length xs - 1) 0)) (sym index-here)

          taken : w.items ≡ swap_remove xs (get_or indices slot 0) slot
          taken =
              let was : r ≡ slot = out ∙ get_or_default v.items cell.index r 0 (let low = index-below in omega (arith, low, v.ok.0))
              ∙ ap (λ ys. get_or ys cell.index 0) (sym array) ∙ ap (λ i. get_or xs i 0) (sym index-here) ∙ are.there l slot held in
              items ∙ ap (λ ys. swap_remove ys cell.index r) (sym array) ∙ ap (λ i. swap_remove xs i r) (sym index-here) ∙ ap (swap_remove xs (get_or indices slot 0)) was

          arrays-left : arrays_in (set arrays n w) ≡ set (arrays_in arrays) (level_number l) (swap_remove xs (get_or indices slot 0) slot)
          arrays-left = arrays-now arrays are.five l n number v at w (swap_remove xs (get_or indices slot 0) slot) taken

          pub seen-left : seen (levels_in after) (arrays_in (set arrays n w)) ≡ seen (set levels slot None) (set (arrays_in arrays) (level_number l) (swap_remove xs (get_or indices slot 0) slot))
          seen-left = ap (λ ls. seen ls (arrays_in (set arrays n w))) levels-now ∙ ap (seen (set levels slot None)) arrays-left

          pub dense-left : HaveCapacity arrays (length levels) → vec_capacity w ≡ vec_capacity v → AreDense (levels_in after) (indices_in after) (arrays_in (set arrays n w)) × HaveCapacity (set arrays n w) (length (levels_in after))
          dense-left enough capacity = (
            rw (levels-now, indices-now, arrays-left) (left-dense levels indices (arrays_in arrays) are slot l held (long-cells cells)),
            (let same : length (levels_in after) ≡ length levels = ap length levels-now ∙ length-set levels slot None in
                rw same (capacity-set arrays n v (number-below arrays are.five l n number) at w (length levels) (omega (arith, capacity)) enough)),
          )

  -- the slot enters a list
  module _ (none : level_in (levels_in cells) slot ≡ None) (l : Level) (n : ℕ) (number : n ≡ level_number l) (v : Vec ℕ Z) (at : v ≡ get_or arrays n v) where
    abbrev ys : List ℕ
    ys = array_of (arrays_in arrays) l

    own : ys ≡ v.items
    own = array-here arrays are.five l n number v at

    pub one-fits : vec_len v < length levels
    one-fits =
        let enough = capacity-for-one levels indices (arrays_in arrays) are slot l none below in
        let len = ap length own in
        omega (arith, enough, len, v.ok.0)

    module _ (o : Option Level) (some : o ≡ Some l) (w : Vec ℕ Z) (items : w.items ≡ v.items ++ slot ∷ []) (count : ℕ) (long : count ≡ vec_len v) where
      abbrev grown : List Cell
      grown = set cells slot (record { level = o; index = count })

      grown-levels : levels_in grown ≡ set levels slot (Some l)
      grown-levels = map-set (λ (c : Cell). c.level) cells slot (record { level = o; index = count }) ∙ ap (set levels slot) some

      grown-indices : indices_in grown ≡ set indices slot (length ys)
      grown-indices =
          map-set (λ (c : Cell). c.index) cells slot (record { level = o; index = count })
          ∙ ap (set indices slot) (let same : count ≡ length ys = (let len = ap length own in omega (arith, len, long, v.ok.0)) in same)

      arrays-more : arrays_in (set arrays n w) ≡ set (arrays_in arrays) (level_number l) (ys ++ slot ∷ [])
      arrays-more = arrays-now arrays are.five l n number v at w (ys ++ slot ∷ []) (items ∙ ap (λ ys. ys ++ slot ∷ []) (sym own))

      pub seen-more : seen (levels_in grown) (arrays_in (set arrays n w)) ≡ seen (set levels slot (Some l)) (set (arrays_in arrays) (level_number l) (ys ++ slot ∷ []))
      seen-more = ap (λ ls. seen ls (arrays_in (set arrays n w))) grown-levels ∙ ap (seen (set levels slot (Some l))) arrays-more

      pub dense-more : HaveCapacity arrays (length levels) → vec_capacity w ≡ vec_capacity v → AreDense (levels_in grown) (indices_in grown) (arrays_in (set arrays n w)) × HaveCapacity (set arrays n w) (length (levels_in grown))
      dense-more enough capacity = (
        rw (grown-levels, grown-indices, arrays-more) (more-dense levels indices (arrays_in arrays) are slot l none below (long-cells cells)),
        (let same : length (levels_in grown) ≡ length levels = ap length grown-levels ∙ length-set levels slot (Some l) in
            rw same (capacity-set arrays n v (number-below arrays are.five l n number) at w (length levels) (omega (arith, capacity)) enough)),
      )
