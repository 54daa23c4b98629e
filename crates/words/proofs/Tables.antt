-- The tables of the code are those of Words.antt.
-- Assumes nothing.
use mathlib.Core.Path.{◌≡◌, refl}
use mathlib.Core.List.{map}
use Rattle.words.specs.declared.TheConstants.{FIELD_NAMES, FORMS}
use Rattle.words.specs.Words.{field_names, forms}
use Rattle.words.specs.Forms.{form_from}

pub names_are : map (λ s. s.now) FIELD_NAMES ≡ field_names
names_are = refl

pub forms_are : map (λ r. map form_from r.now) FORMS ≡ forms
forms_are = refl
