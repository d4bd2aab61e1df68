-- The model's instruction that a `Site` is.
use Rattle.model.specs.Sites as sites
use Rattle.types.specs.declared.method_code.site.Site as declared_site
use Rattle.types.specs.method_code.View.{member_of, body_of}

abbrev pub site_of : declared_site.Site → sites.Site
site_of s = record { method = member_of s.method; body = body_of s.method; offset = s.offset; instr = s.instr; next = s.next }
