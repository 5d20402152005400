mod Normal
