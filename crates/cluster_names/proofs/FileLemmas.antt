-- A path that is put into a set of texts has the index at which look-ups find it.
use Rattle.std.proofs.Common.{◌≡◌, ℕ, ◌+◌, Bool, true, false, not, cond, List, [], ◌∷◌, ◌++◌, ◌||◌, map, Some, None, position, String, string_bytes, refl, sym, ap, ◌∙◌}
use Rattle.std.specs.List.{list_any, position_or_len}
use Rattle.std.specs.Str.{bytes_eq}
use Rattle.std.specs.String.{string_eq}
use Rattle.std.proofs.lemmas.List.{map_push}
use Rattle.indexmap.specs.IndexSet.{insert_key}
use Rattle.cluster_names.specs.Rows.{Text}
use Rattle.cluster_names.specs.FileTable.{FileTable, path_index, with_path}
use Rattle.cluster_names.specs.declared.files.FileIndex.{FileIndex}

module _ {A B : Type 0} (p : B → Bool) (f : A → B) where
  pub list_any-map : (xs : List A) → list_any p (map f xs) ≡ list_any (λ x. p (f x)) xs
  list_any-map [] = refl
  list_any-map (x ∷ xs) = ap (λ b. p (f x) || b) (list_any-map xs)

  pub position_or_len-map : (xs : List A) → position_or_len p (map f xs) ≡ position_or_len (λ x. p (f x)) xs
  position_or_len-map [] = refl
  position_or_len-map (x ∷ xs) = ap (λ n. cond (not (p (f x))) (1 + n) 0) (position_or_len-map xs)

some_of_cond : (b : Bool) (n i : ℕ) → cond b (Some n) None ≡ Some i → n ≡ i
some_of_cond true n i e = cc
some_of_cond false n i e = cc

module _ {Y : Type 0} (keys : List (String Y)) (path : Text) where
  -- a path that was found
  pub index_found : (i : ℕ) → Some i ≡ position (λ k. bytes_eq path (string_bytes k)) keys → i ≡ path_index (map string_bytes keys) path
  index_found i e = sym (position_or_len-map (bytes_eq path) string_bytes keys ∙ some_of_cond _ _ i (sym e))

  pub paths_found : true ≡ list_any (λ k. bytes_eq path (string_bytes k)) keys → map string_bytes keys ≡ with_path (map string_bytes keys) path
  paths_found e =
      let here : list_any (bytes_eq path) (map string_bytes keys) ≡ true = list_any-map (bytes_eq path) string_bytes keys ∙ sym e in
      rw here refl

  -- a path that was put in
  pub index_put : (k : String Y) → string_bytes k ≡ path → position_or_len (string_eq k) keys ≡ path_index (map string_bytes keys) path
  index_put k e = ap (λ t. position_or_len (λ x. bytes_eq t (string_bytes x)) keys) e ∙ sym (position_or_len-map (bytes_eq path) string_bytes keys)

  pub paths_put : (k : String Y) → string_bytes k ≡ path → false ≡ list_any (λ x. bytes_eq path (string_bytes x)) keys
      → map string_bytes (insert_key string_eq keys k) ≡ with_path (map string_bytes keys) path
  paths_put k e none =
      let here : list_any (bytes_eq path) (map string_bytes keys) ≡ false = list_any-map (bytes_eq path) string_bytes keys ∙ sym none in
      let any : list_any (string_eq k) keys ≡ false = ap (λ t. list_any (λ x. bytes_eq t (string_bytes x)) keys) e ∙ sym none in
      rw (any, here) (map_push string_bytes keys k ∙ ap (λ t. map string_bytes keys ++ t ∷ []) e)

-- tables with the same paths and the same file_indices are the same
pub same_table : (f g : FileTable) → f.paths ≡ g.paths → f.file_indices ≡ g.file_indices → f ≡ g
same_table f g paths file_indices =
    ap (λ p. let t : FileTable = record { paths = p; file_indices = f.file_indices } in t) paths
    ∙ ap (λ q. let t : FileTable = record { paths = g.paths; file_indices = q } in t) file_indices

pub pushed_same : (es fs : List (ℕ × FileIndex)) (block index m n : ℕ) → es ≡ fs → m ≡ n
    → es ++ (block, record { file = m; index = index }) ∷ [] ≡ fs ++ (block, record { file = n; index = index }) ∷ []
pushed_same es fs block index m n same file =
    ap (λ xs. xs ++ (block, record { file = m; index = index }) ∷ []) same
    ∙ ap (λ k. fs ++ (block, record { file = k; index = index }) ∷ []) file
