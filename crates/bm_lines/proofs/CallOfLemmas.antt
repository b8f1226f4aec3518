-- A UTF-8 line has the data that serde_json reads of it; any other line has none.
use Rattle.std.proofs.Common.{◌≡◌, ℕ, List, Bool, true, false, cond, refl, sym}
use Rattle.std.specs.Prelude.{Some, None, IsUtf8}
use Rattle.std.specs.Str.{is_utf8}
use Rattle.std.proofs.lemmas.Str.{IsUtf8-from_is_utf8, is_utf8-from_IsUtf8}
use Rattle.serde_json.specs.Data.{Data}
use Rattle.serde_json.specs.Read.{read}
use Rattle.bm_lines.specs.Parser.CallOf.{view_of}

pub view_of-text : (line : List ℕ) (d : Data) → IsUtf8 line → read line ≡ Some d → Some d ≡ view_of line
unfolding view_of
view_of-text line d text e = rw (is_utf8-from_IsUtf8 line text) (sym e)

pub view_of-none : (line : List ℕ) → (IsUtf8 line → read line ≡ None) → None ≡ view_of line
unfolding view_of
view_of-none line h = go (is_utf8 line) refl
  where
    go : (b : Bool) → is_utf8 line ≡ b → None ≡ cond b (read line) None
    go true e = sym (h (IsUtf8-from_is_utf8 line e))
    go false e = refl
