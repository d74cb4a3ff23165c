use Rattle.std.proofs.Common.{◌≡◌, ap, sym, ◌∙◌, bytes_eq, codes, true, refl, rules}
use Rattle.ld_line.specs.Field.{fields}
use Rattle.ld_line.specs.Meta.{meta_of}
use Rattle.ld_line.specs.Part.{header_of}
use Rattle.ld_line.proofs.OtherLines.{header-blank, header-meta, header-other, no_meta}
use Rattle.ld_line.proofs.header.header_line.Goals as goal

pub returns-in_default : goal.returns-in_default
returns-in_default c = header-blank c.args.line.now c.in_default.ensures

pub returns-then-not-is_word : goal.returns-then-not-is_word
returns-then-not-is_word c = header-other c.args.line.now c.in-Some.kind.now _ c.in-Some.ensures.0 (search rules)

pub returns-in_default-split_field : goal.returns-in_default-split_field
returns-in_default-split_field c =
    sym (header-meta c.args.line.now c.in-Some.kind.now _ c.in-Some.ensures.0 (search rules) ∙ ap (λ fs. header_of (meta_of fs)) c.in_default-split_field.ensures)

pub returns-then-not-is_word-2 : goal.returns-then-not-is_word-2
returns-then-not-is_word-2 c =
    sym (header-meta c.args.line.now c.in-Some.kind.now _ c.in-Some.ensures.0 (search rules) ∙ ap (λ fs. header_of (meta_of fs)) c.in-Some-split_field.ensures.0 ∙ no_meta c.in-Some-split_field.command.now (fields c.in-Some-split_field.rest.now) (search rules))

pub returns : goal.returns
returns c =
    let org : bytes_eq c.in-Some-split_field.command.now (codes "!LDRAW_ORG") ≡ true = search rules in
    sym (header-meta c.args.line.now c.in-Some.kind.now _ c.in-Some.ensures.0 (search rules) ∙ ap (λ fs. header_of (meta_of fs)) c.in-Some-split_field.ensures.0 ∙ rw (org, c.names_part_type.ensures) refl)
