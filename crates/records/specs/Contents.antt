-- What `Data` stands for.
use Rattle.std.specs.Prelude.{ℕ, ◌-◌, ◌^◌, false, List, [], map, vec_items}
use Rattle.std.specs.Fmt.{digits, padded_integral, format_spec}
use Rattle.std.specs.Int.{from_be_bytes, w64}
use Rattle.names.specs.Names.{labels}
use Rattle.records.specs.declared.data.Data.{Data}
use Rattle.records.specs.declared.data.Data.TheVariants as rust
use Rattle.records.specs.declared.types.Address.{Address}
use Rattle.meaning.specs.Model as model
use Rattle.meaning.specs.Model.{Content}

abbrev pub bytes_of : Address → List ℕ
bytes_of a = a.0

-- its bytes as one number, the first of them the highest, in sixteen hexadecimal digits
abbrev pub address_text : Address → List ℕ
address_text a = padded_integral (format_spec 32 0 4 16 (2 ^ 64 - 1)) false [] (digits 16 false (from_be_bytes w64 a.0))

abbrev pub content_of : Data → Content
content_of (rust.Addresses v) = model.Addresses (map bytes_of (vec_items v))
content_of (rust.Texts v) = model.Texts (map vec_items (vec_items v))
content_of (rust.Others v) = model.Others (map vec_items (vec_items v))
content_of (rust.Alias n) = model.AliasOf (labels n.value)
content_of (rust.Delegation d) = model.Delegated (record { servers = map bytes_of (vec_items d.servers) })
