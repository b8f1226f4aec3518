-- After a text was read, the loaded cluster is that of the text, if the reader's bytes are known.
use Rattle.std.proofs.Common.{◌≡◌, ℕ, Bool, true, List, [], Option, Some, None, IfSome, OnOk, Result, Ok, Err, refl, sym, ap, subst, ◌∙◌, append-nil}
use Rattle.std.specs.Fmt.{option_append}
use Rattle.std.specs.Io.KnownBytes.{Appends}
use Rattle.bm_base.specs.Machine.State.{State}
use Rattle.fsck_import.specs.CallsFor.{calls_for}
use Rattle.fsck_import.specs.Imports.{HasBlocks}
use Rattle.fsck_import.specs.TextReading.{reading_of}
use Rattle.fsck_import.specs.declared.text_reader.Reading.{Reading}
use Rattle.cluster_input.specs.ClusterNames.{names_of}
use Rattle.cluster_input.specs.Inputs.{IsAfter, IsRead, accepts, accepts_as, notes_as, notes_on}
use Rattle.cluster_input.specs.Kinds.{are_lines, has_word, IsHeadOf}
use Rattle.cluster_input.specs.MadeCalls.{Makes}
use Rattle.cluster_input.specs.declared.loaded_cluster.Loaded.{Loaded}

-- what holds of the head and the rest, read as one, holds of the text
through_head : (known left : Option (List ℕ)) (head : List ℕ) (P : Bool → List ℕ → Type 0)
    → IfSome known (λ text. IsHeadOf text head left)
    → IfSome (option_append (Some head) left) (P (are_lines head))
    → IfSome known (λ text. P (are_lines text) text)
through_head None left head P h p = tt
through_head (Some text) left head P h p =
    let all : option_append (Some head) left ≡ Some text =
    ap (option_append (Some head)) h.left_is ∙ ap Some (sym h.begins.parts) in
    subst (λ c. P c text) h.begins.alike (subst (λ w. IfSome w (P (are_lines head))) all p)

-- a text whose head was read is not blank
pub filled_through : {A E : Type 0} (r : Result A E) (known left : Option (List ℕ)) (head : List ℕ)
    → IfSome known (λ text. IsHeadOf text head left) → OnOk r (IfSome known (λ text. has_word text ≡ true))
filled_through (Ok _) None left head h = tt
filled_through (Ok _) (Some text) left head h = h.begins.filled
filled_through (Err _) known left head h = tt

-- lines after a head were taken as those of the text
pub more_through : {A E : Type 0} (r : Result A E) (known left : Option (List ℕ)) (head shown : List ℕ) (P : List ℕ → Type 0)
    → shown ≡ head
    → IfSome known (λ text. IsHeadOf text head left)
    → OnOk r (IfSome (option_append (Some shown) left) P)
    → OnOk r (IfSome known P)
more_through (Ok _) known left head shown P e h p =
    through_head known left shown (λ b text. P text) (subst (λ xs. IfSome known (λ text. IsHeadOf text xs left)) (sym e) h) p
more_through (Err _) known left head shown P e h p = tt

pub after_through : (known left : Option (List ℕ)) (head shown : List ℕ) (start : Reading) (remaining : ℕ) (old new : Loaded)
    → shown ≡ head
    → IfSome known (λ text. IsHeadOf text head left)
    → IfSome (option_append (Some shown) left) (λ text. IsAfter (are_lines shown) start remaining text old new)
    → IfSome known (λ text. IsAfter (are_lines text) start remaining text old new)
after_through known left head shown start remaining old new e h after =
    through_head known left shown (λ b text. IsAfter b start remaining text old new)
    (subst (λ xs. IfSome known (λ text. IsHeadOf text xs left)) (sym e) h) after

pub accepts_through : (known left : Option (List ℕ)) (head shown : List ℕ) (all : Bool) (M : State)
    → shown ≡ head
    → IfSome known (λ text. IsHeadOf text head left)
    → IfSome (option_append (Some shown) left) (λ text. all ≡ accepts_as (are_lines shown) M text)
    → IfSome known (λ text. all ≡ accepts M text)
accepts_through known left head shown all M e h says =
    through_head known left shown (λ b text. all ≡ accepts_as b M text)
    (subst (λ xs. IfSome known (λ text. IsHeadOf text xs left)) (sym e) h) says

pub notes_through : (known left : Option (List ℕ)) (head shown : List ℕ) (M : State) (old new : Option (List ℕ))
    → shown ≡ head
    → IfSome known (λ text. IsHeadOf text head left)
    → IfSome (option_append (Some shown) left) (λ text. Appends old new (notes_as (are_lines shown) M text))
    → IfSome known (λ text. Appends old new (notes_on M text))
notes_through known left head shown M old new e h noted =
    through_head known left shown (λ b text. Appends old new (notes_as b M text))
    (subst (λ xs. IfSome known (λ text. IsHeadOf text xs left)) (sym e) h) noted

-- a text of fsck was read, and its calls were made
is_read : (known : Option (List ℕ)) (start read : Reading) (remaining : ℕ) (old new : Loaded)
    → IfSome known (λ text. reading_of start text ≡ Ok read) → IfSome known (λ text. HasBlocks start text read)
    → Makes (calls_for read.cluster remaining) old.session.manager new.session.manager → new.names ≡ names_of read.cluster
    → new.files ≡ read.listing.files → IfSome known (λ text. IsRead start remaining text old new)
is_read None start read remaining old new read_is blocks makes names files = tt
is_read (Some text) start read remaining old new read_is blocks makes names files =
    record { read = read; read_is = read_is; makes = makes; blocks = blocks; names = names; files = files }

pub taken_is_read : {A E : Type 0} (r : Result A E) (known : Option (List ℕ)) (start read : Reading) (remaining : ℕ) (old new : Loaded)
    → IfSome known (λ text. reading_of start text ≡ Ok read) → IfSome known (λ text. HasBlocks start text read)
    → OnOk r (Makes (calls_for read.cluster remaining) old.session.manager new.session.manager) → OnOk r (new.names ≡ names_of read.cluster)
    → OnOk r (new.files ≡ read.listing.files) → OnOk r (IfSome known (λ text. IsRead start remaining text old new))
taken_is_read (Ok _) known start read remaining old new read_is blocks makes names files =
    is_read known start read remaining old new read_is blocks makes names files
taken_is_read (Err _) known start read remaining old new read_is blocks makes names files = tt

-- each call for a text of fsck is accepted, and it has no notes
pub all_accepted_of : (known : Option (List ℕ)) → IfSome known (λ text. true ≡ true)
all_accepted_of None = tt
all_accepted_of (Some text) = refl

pub nothing_noted : (known noted : Option (List ℕ)) → IfSome known (λ text. Appends noted noted [])
nothing_noted None noted = tt
nothing_noted (Some text) None = tt
nothing_noted (Some text) (Some xs) = sym (append-nil xs)
