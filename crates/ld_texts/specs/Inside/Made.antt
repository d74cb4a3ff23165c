-- What a prepared change is.
use Rattle.std.specs.Prelude.{◌≡◌, [], ⊤}
use Rattle.std.specs.Vec.{vec_capacity}
use Rattle.ld_texts.specs.Learning.{Ready, Apply, Learn}
use Rattle.ld_texts.specs.declared.ready.Prepared.{Prepared}
use Rattle.ld_texts.specs.declared.ready.Prepared.TheVariants.{File, Edit}

-- the change that is prepared
abbrev pub ready_of : Prepared → Ready
ready_of (File file text) = Learn file text
ready_of (Edit edit room) = Apply edit (vec_capacity room)

-- nothing stands in the memory that an edit brings
abbrev pub IsFree : Prepared → Type 0
IsFree (File file text) = ⊤
IsFree (Edit edit room) = room.items ≡ []
