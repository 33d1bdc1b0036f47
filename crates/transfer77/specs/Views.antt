-- What clauses see of specifiers, settings and keywords.
use Rattle.std.specs.Prelude.{List, map, Option}
use Rattle.std.specs.Option.{option_map}
use Rattle.expr_tree.specs.Plain.{expr_of}
use Rattle.tree77.specs.Forms.{Form}
use Rattle.tree77.specs.StatementPlain.{unit_ref_of, format_ref_of}
use Rattle.tree77.specs.TransferForms as f
use Rattle.transfer77.specs.declared.settings.Settings.{Settings}
use Rattle.transfer77.specs.declared.specifiers.Keywords.{Keywords}
use Rattle.transfer77.specs.declared.specifiers.Keywords.TheVariants as keywords
use Rattle.transfer77.specs.declared.specifiers.Others.{Others}
use Rattle.transfer77.specs.declared.specifiers.Specifier.{Specifier}
use Rattle.transfer77.specs.declared.specifiers.Specifier.TheVariants as specifier
use Rattle.transfer77.specs.declared.specifiers.Specifiers.{Specifiers}

abbrev pub specifier_of : Specifier → f.Specifier
specifier_of (specifier.FirstUnit u) = f.first_unit (unit_ref_of u)
specifier_of (specifier.SecondFormat x) = f.second_format (format_ref_of x)
specifier_of (specifier.Unit u) = f.unit_is (unit_ref_of u)
specifier_of (specifier.Format x) = f.format_is (format_ref_of x)
specifier_of (specifier.File e) = f.file_is (expr_of e)
specifier_of (specifier.Status e) = f.status_is (expr_of e)
specifier_of (specifier.Iostat v) = f.iostat_is v
specifier_of (specifier.Error l) = f.error_is l
specifier_of (specifier.Ending l) = f.ending_is l
specifier_of specifier.Other = f.other

abbrev pub others_of : Others → f.Specifier × List f.Specifier
others_of o = (specifier_of o.second, map specifier_of o.more)

abbrev pub specifiers_of : Specifiers → f.Specifier × Option (f.Specifier × List f.Specifier)
specifiers_of p = (specifier_of p.first, option_map others_of p.others)

abbrev pub settings_of : Settings → f.Settings
settings_of c =
    record { unit = option_map unit_ref_of c.unit; format = option_map format_ref_of c.format; file = option_map expr_of c.file; status = option_map expr_of c.status; iostat = c.iostat; error = c.error; ending = c.ending }

-- the specifiers with a keyword that a statement takes
abbrev pub keyword_of : Keywords → Form f.Specifier
keyword_of keywords.Read = f.read_specifier
keyword_of keywords.Write = f.write_specifier
keyword_of keywords.Open = f.open_specifier
keyword_of keywords.Close = f.close_specifier
