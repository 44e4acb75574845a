-- Whether platform and backend have a login in common.
use Rattle.std.specs.Prelude.{bytes_eq, Bool, ◌&&◌, ◌||◌}
use Rattle.serde_json.specs.Data.{Data}
use Rattle.osb_catalog.specs.declared.field.Field.{Field}
use Rattle.osb_catalog.specs.declared.field.Field.TheVariants as the
use Rattle.osb_catalog.specs.Fields.{value_at, text_at}
use Rattle.osb_catalog.specs.Kinds.{is_some_and}

abbrev pub has_same : Field → Data → Data → Bool
has_same field one other = bytes_eq (text_at field one) (text_at field other)

abbrev pub is_same_login : Data → Data → Bool
is_same_login one other = has_same the.User one other && has_same the.Password one other

-- the login is the other one, or that one's `also`
abbrev pub is_one_of : Data → Data → Bool
is_one_of login other =
    is_same_login login other || is_some_and (is_same_login login) (value_at the.Also other)

-- the first login or its `also` is one of the second
abbrev pub share_a_login : Data → Data → Bool
share_a_login one other =
    is_one_of one other || is_some_and (λ also. is_one_of also other) (value_at the.Also one)

abbrev pub doors_share_a_login : Data → Bool
doors_share_a_login file =
    is_some_and (λ platform. is_some_and (share_a_login platform) (value_at the.Backend file))
    (value_at the.Platform file)
