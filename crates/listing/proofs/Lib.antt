mod Decimal
mod Lines
mod Rows
