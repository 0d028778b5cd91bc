-- Which texts may be documents.
use Rattle.std.proofs.Common.{◌≡◌, List, ℕ, Some, None, Err, refl, inl, inr}
use Rattle.std.specs.Str.{IsUtf8, is_utf8}
use Rattle.std.proofs.lemmas.Bool.{cases_Bool}
use Rattle.std.proofs.lemmas.Str.{IsUtf8-from_is_utf8, is_utf8-from_IsUtf8}
use Rattle.toml.specs.Data.{Members}
use Rattle.toml.specs.Parse.{parse_document}
use Rattle.admin_text.specs.declared.setup.SetupFault.TheVariants.{Toml}
use Rattle.admin_text.specs.Ignored.{document_in}
use Rattle.admin_text.specs.Setup.{setup_of, setup_of_table}

pub setup_of-document : (text : List ℕ) (t : Members) → IsUtf8 text → parse_document text ≡ Some t → setup_of text ≡ setup_of_table t
unfolding setup_of
setup_of-document text t utf8 read = rw (is_utf8-from_IsUtf8 text utf8, read) refl

pub setup_of-refused : (text : List ℕ) → (IsUtf8 text → parse_document text ≡ None) → setup_of text ≡ Err Toml
unfolding setup_of
setup_of-refused text refused =
    elim (cases_Bool (is_utf8 text)) [
      | inl yes' ↦ rw (yes', refused (IsUtf8-from_is_utf8 text yes')) refl
      | inr no' ↦ rw no' refl
    ]

pub document_in-document : (text : List ℕ) (t : Members) → IsUtf8 text → parse_document text ≡ Some t → document_in text ≡ Some t
document_in-document text t utf8 read = rw (is_utf8-from_IsUtf8 text utf8) read

pub document_in-refused : (text : List ℕ) → (IsUtf8 text → parse_document text ≡ None) → document_in text ≡ None
document_in-refused text refused =
    elim (cases_Bool (is_utf8 text)) [
      | inl yes' ↦ rw yes' (refused (IsUtf8-from_is_utf8 text yes'))
      | inr no' ↦ rw no' refl
    ]
