mod TextLaws
mod RecordLaws
